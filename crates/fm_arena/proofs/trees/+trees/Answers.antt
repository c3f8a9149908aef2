use Rattle.std.proofs.Common.{◌∙◌, List, ℕ, map, ap}
use Rattle.fm_arena.proofs.Pairing.{flat_built}
use Rattle.fm_arena.specs.Frames.{names_at}
use Rattle.fm_arena.specs.Meanings.{meaning_at, meanings_at, terms_of}
use Rattle.fm_arena.proofs.trees.+trees.Goals as goal

pub made_tree-returns-in_ok-members-in-Some-clause-tree : goal.made_tree-returns-in_ok-members-in-Some-clause-tree
made_tree-returns-in_ok-members-in-Some-clause-tree t c =
    let ts = terms_of c.args.before.now in
    let names = names_at c.args.frames.now.items c.args.frame in
    flat_built ts c.args.op c.in-Some.truth c.args.parts.now c.in_ok-pairs-in-Some.pairs.items c.in_ok-trees-in-Some.trees.items c.in_ok-members-in-Some.members names c.args.depth c.in-Some.ensures c.in_ok-pairs-in-Some.ensures
    (c.in_ok-trees-in-Some.ensures.trees ∙ ap (λ (is : List ℕ). meanings_at (map (meaning_at ts) is) names c.args.depth) c.as_slice.ensures.value)
    c.in_ok-members-in-Some.ensures
