use Rattle.std.proofs.Common.{◌≡◌, List, length, arith, sym, subst}
use Rattle.std.specs.Prelude.{IfOk}
use Rattle.fm_arena.proofs.Framing.{room_some}
use Rattle.fm_arena.specs.Frames.{names_at, spot_tree, wanted}
use Rattle.fm_arena.specs.Trees.{of_kind}
use Rattle.fm_arena.specs.Meanings.{meaning_of, terms_of}
use Rattle.fm_arena.specs.declared.node.Node.{Node}
use Rattle.fm_arena.specs.declared.frames.Frame.{Frame}
use Rattle.fm_arena.proofs.frames.node_step.Goals as goal

pub returns-in-Name-clause-tree : goal.returns-in-Name-clause-tree
returns-in-Name-clause-tree c =
    λ d.
    subst (λ (n : Node). IfOk c.named_as.result (λ r. wanted r.0 (spot_tree c.args.frames.now.items r.1 d) ≡ wanted c.args.kind (meaning_of (terms_of c.args.before.now) n (names_at c.args.frames.now.items c.args.frame) d))) (sym c.in-Name.is)
    (subst (λ (fs : List Frame). IfOk c.named_as.result (λ r. wanted r.0 (spot_tree fs r.1 d) ≡ wanted c.args.kind (of_kind c.in-Name.truth (names_at fs c.args.frame c.in-Name.place d)))) c.as_slice.ensures.value (c.named_as.ensures.tree d))

pub returns-in-Made-clause-room : goal.returns-in-Made-clause-room
returns-in-Made-clause-room c = omega (arith, room_some (length c.args.before.now))

pub returns-in-Quant-clause-room : goal.returns-in-Quant-clause-room
returns-in-Quant-clause-room c = omega (arith, room_some (length c.args.before.now))
