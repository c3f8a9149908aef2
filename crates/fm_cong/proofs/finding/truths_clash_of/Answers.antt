use Rattle.std.proofs.Common.{List, true, false, ap, sym, ◌∙◌}
use Rattle.fm_bank.specs.Closure.{no as the_no, yes as the_yes}
use Rattle.fm_cells.proofs.Keying.{got}
use Rattle.fm_cong.specs.Clashes.{first_term}
use Rattle.fm_cong.specs.States.{count_of}
use Rattle.fm_cong.specs.declared.fact.Fact.{Fact}
use Rattle.fm_cong.proofs.Clashing.{apart_truths, terms_below}
use Rattle.fm_cong.proofs.finding.truths_clash_of.Goals as goal

pub truths_clash-requires-clause-holds : goal.truths_clash-requires-clause-holds
truths_clash-requires-clause-holds c = terms_below true (count_of c.args.state.now) c.args.state.now.facts.items c.first_read.result (c.first_read.ensures ∙ ap (λ (fs : List Fact). first_term true fs) c.as_slice-facts.ensures.value) c.requires.atoms

pub truths_clash-requires-clause-fails : goal.truths_clash-requires-clause-fails
truths_clash-requires-clause-fails c = terms_below false (count_of c.args.state.now) c.args.state.now.facts.items c.first_read-2.result (c.first_read-2.ensures ∙ ap (λ (fs : List Fact). first_term false fs) c.as_slice-facts.ensures.value) c.requires.atoms

pub returns-then-get : goal.returns-then-get
returns-then-get c =
    let cells = c.args.state.now.classes.class.cells.items in
    let yes = got cells the_yes the_yes c.get.result c.get.ensures in
    let no = got cells the_no the_no c.get-2.result c.get-2.ensures in
    sym (apart_truths cells c.args.state.now.facts.items c.requires.holds (λ same. c.if-get.true (yes ∙ (same ∙ sym no))))
