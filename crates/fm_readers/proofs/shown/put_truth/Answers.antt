use Rattle.std.proofs.Common.{List, ap, ◌∙◌, arith}
use Rattle.fm_base.specs.declared.ids.Lit.{Lit}
use Rattle.fm_bank.specs.Closure.{object}
use Rattle.fm_bank.specs.Interning.{first_places}
use Rattle.fm_explain.specs.Explanations.{truth_node}
use Rattle.fm_steps.specs.Content.{opposites}
use Rattle.fm_readers.specs.Graphs.{named}
use Rattle.fm_readers.proofs.Nodes.{support_below, truth_is_node}
use Rattle.fm_readers.proofs.Reasons.{reasons}
use Rattle.fm_readers.proofs.shown.put_truth.Goals as goal

pub returns : goal.returns
returns c = λ es read.
    let held = c.args.bank.now in
    let g = c.args.graph.now in
    let x = c.in_ok-explained.explained in
    let a = object c.args.term.0 in
    let b = truth_node c.args.truth in
    let left = c.requires.term in
    let low = support_below held c.one_number_per_term.ensures.held g c.requires.known c.links.result.now c.links.ensures.explained a b (omega (arith, left)) (truth_is_node held.terms c.args.truth) x c.in_ok-explained.ensures.explanation in
    reasons held es g a b x c.args.lits.now.keys c.put_opposites.new.lits.keys read c.in_ok-explained.ensures low
    (c.in_ok-put_opposites.ensures ∙ ap (λ (ls : List Lit). first_places c.args.lits.now.keys (opposites (named held.atoms ls))) c.as_slice.ensures.value)
