use Rattle.std.proofs.Common.{◌≡◌, ◌<◌, ◌≤◌, true, [], length, refl, sym, subst, ◌∙◌, arith}
use Rattle.std.specs.List.{All}
use Rattle.std.proofs.lemmas.List.{take_all}
use Rattle.std.proofs.lemmas.List.Elements.{All-more}
use Rattle.std.proofs.lemmas.Option.{slice_get_read}
use Rattle.fm_base.specs.Interpretations.{reading_of}
use Rattle.fm_base.specs.Truth.{truth}
use Rattle.fm_base.specs.declared.formula.Formula.{Formula}
use Rattle.fm_truth.specs.Room.{IsWithin, room_of}
use Rattle.fm_truth.proofs.Fitting.{fit_tables_ascend}
use Rattle.fm_truth.proofs.failing.first_failing.Goals as goal

pub failing_tuple-requires-clause-tables : goal.failing_tuple-requires-clause-tables
failing_tuple-requires-clause-tables c = fit_tables_ascend c.requires.0 c.args.interp.now c.requires.1

pub loop-assertion-preserved : goal.loop-assertion-preserved
loop-assertion-preserved c =
    let m = reading_of c.args.interp.now in
    let xs = c.args.assertions.now in
    let i = c.loop-assertion.assertion in
    let x = c.index-assertions-assertion.result in
    let lt : i < length xs = omega arith in
    record {
      room = subst (λ e. All (λ (f : Formula). IsWithin (room_of f) e) xs) (sym c.holds.ensures.room) c.loop-assertion.invariant.room;
      hold = All-more (λ (f : Formula). truth f m [] ≡ true) xs i x lt c.loop-assertion.invariant.hold (subst (λ f. truth f m [] ≡ true) c.index-assertions-assertion.is (sym c.holds.ensures.value ∙ c.if-not-holds.false));
    }

pub returns-clause-none : goal.returns-clause-none
returns-clause-none c =
    let m = reading_of c.args.interp.now in
    let xs = c.args.assertions.now in
    let i = c.loop-assertion.assertion in
    let le : length xs ≤ i = omega arith in
    subst (λ l. All (λ (f : Formula). truth f m [] ≡ true) l) (take_all i xs le) c.loop-assertion.invariant.hold

pub returns-then-not-holds-clause-some : goal.returns-then-not-holds-clause-some
returns-then-not-holds-clause-some c =
    let xs = c.args.assertions.now in
    let i = c.loop-assertion.assertion in
    let x = c.index-assertions-assertion.result in
    let lt : i < length xs = omega arith in
    record {
      formula = x;
      stands = slice_get_read xs (length xs) i x refl lt c.index-assertions-assertion.is;
      fails = sym c.holds.ensures.value ∙ c.if-not-holds.true;
      first = c.loop-assertion.invariant.hold;
      shown = c.in_ok-tuple.ensures;
    }
