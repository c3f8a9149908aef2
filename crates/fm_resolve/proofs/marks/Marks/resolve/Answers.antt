use Rattle.std.proofs.Common.{◌||◌, ap, sym, ◌∙◌}
use Rattle.std.proofs.lemmas.Bool.{both_ways}
use Rattle.fm_base.specs.declared.ids.Lit.{Lit}
use Rattle.fm_resolve.specs.Chains.{opposite}
use Rattle.fm_resolve.specs.Marks.{is_in, is_member, is_member_but}
use Rattle.fm_resolve.proofs.MarkLaws.{has_member, marks_kept, members_in, resolved}
use Rattle.fm_resolve.proofs.marks.Marks.resolve.Goals as goal

pub returns-then-not-is_on-clause-no : goal.returns-then-not-is_on-clause-no
returns-then-not-is_on-clause-no c = λ _ h _. both_ways (is_in c.args.self.now c.args.lit) (sym c.is_on.ensures ∙ c.if-not-is_on.true) (members_in c.args.self.now c.args.lit h)

pub mark_rest-requires-clause-marks : goal.mark_rest-requires-clause-marks
mark_rest-requires-clause-marks c = marks_kept c.args.self.now c.unmark.new.self c.args.other.now c.unmark.ensures.size c.requires.marks

pub returns-clause-yes : goal.returns-clause-yes
returns-clause-yes c = λ e.
    let mid = c.unmark.new.self in
    let new = c.mark_rest.new.self in
    let other = c.args.other.now in
    let lit : Lit = c.args.lit in
    resolved c.args.self.now mid new lit other c.requires.covers c.in_ok-found.ensures.covers (sym c.is_on.ensures ∙ c.if-not-is_on.false) c.unmark.ensures.now (λ (k : Lit). c.in_ok-found.ensures.now k ∙ ap (λ (l : Lit). is_in mid k || is_member_but other l k) c.opposite.ensures) (sym (ap (is_member other) c.opposite.ensures) ∙ (sym c.in_ok-found.ensures.found ∙ e))

pub returns-clause-no : goal.returns-clause-no
returns-clause-no c = λ e _ a. both_ways c.in_ok-found.found e (c.in_ok-found.ensures.found ∙ (ap (is_member c.args.other.now) c.opposite.ensures ∙ has_member c.args.other.now (opposite c.args.lit) a))
