use Rattle.std.proofs.Common.{◌≡◌, ℕ, List, map, sym, ap, ◌∙◌}
use Rattle.std.proofs.lemmas.Option.{slice_get_within}
use Rattle.fm_bank.specs.Closure.{object}
use Rattle.fm_bank.specs.Terms.{numbers}
use Rattle.fm_explain.specs.Meant.{with_all, with_node}
use Rattle.fm_explain.proofs.Supporting.{link_put}
use Rattle.fm_explain.proofs.collecting.put_link.Goals as goal

pub arguments-requires : goal.arguments-requires
arguments-requires c =
    let j = c.requires.congruent c.args.node c.in-Some.edge (sym c.in-Some.ensures) c.in-Congruence.is in
    (j.m, j.u_is, slice_get_within c.args.bank.now.terms j.m j.left j.left_is)

pub arguments-requires-in-Congruence : goal.arguments-requires-in-Congruence
arguments-requires-in-Congruence c =
    let j = c.requires.congruent c.args.node c.in-Some.edge (sym c.in-Some.ensures) c.in-Congruence.is in
    (j.n, j.v_is, slice_get_within c.args.bank.now.terms j.n j.right j.right_is)

pub returns-in_ok-put_terms-in-Congruence-2 : goal.returns-in_ok-put_terms-in-Congruence-2
returns-in_ok-put_terms-in-Congruence-2 c =
    let xs = map (λ s. object s) (numbers c.arguments.result.now) in
    let ys = map (λ s. object s) (numbers c.arguments-in-Congruence.result.now) in
    let two : c.put-in-Some.new.met.keys ≡ with_node (with_node c.args.nodes.now.keys c.args.node) c.in-Some.edge.to = c.in_ok-put-in-Some-2.ensures ∙ ap (λ (ks : List ℕ). with_node ks c.in-Some.edge.to) c.in_ok-put-in-Some.ensures in
    c.in_ok-put_terms-in-Congruence-2.ensures ∙ (ap (λ (ks : List ℕ). with_all ks ys) (c.in_ok-put_terms-in-Congruence.ensures ∙ ap (λ (ks : List ℕ). with_all ks xs) two) ∙ link_put c.args.bank.now.terms c.args.node c.in-Some.edge _ (numbers c.arguments.result.now) (numbers c.arguments-in-Congruence.result.now) c.args.nodes.now.keys (sym c.in-Some.ensures) c.in-Congruence.is c.arguments.ensures c.arguments-in-Congruence.ensures)
