use Rattle.std.proofs.Common.{◌≡◌, ℕ, List, map, refl, ap, subst, ◌∙◌}
use Rattle.fm_bank.specs.Closure.{IsClosed, shapes_of}
use Rattle.fm_bank.specs.Terms.{numbers}
use Rattle.fm_closure.specs.Classes.{AreSound, by_class, numbers_of}
use Rattle.fm_closure.specs.Facts.{facts_in}
use Rattle.fm_closure.proofs.Soundness.{decided}
use Rattle.fm_closure.proofs.closed.Closed.new.Goals as goal

pub returns : goal.returns
returns c = λ x y.
    let shapes = shapes_of c.args.bank.now.terms (numbers c.args.over.now) in
    let objects = c.in_ok-objects.objects.keys in
    let classes = c.in_ok-classes.classes in
    let facts : map numbers_of c.as_slice-2.result.now ≡ facts_in c.args.eqs.now = ap (map numbers_of) c.as_slice-2.ensures.value ∙ c.in_ok-facts.ensures in
    let sound = subst (λ (fs : List (ℕ × ℕ)). AreSound shapes fs objects classes) facts c.in_ok-classes.ensures.sound in
    let closed = subst (λ (fs : List (ℕ × ℕ)). IsClosed shapes fs (by_class objects classes)) facts c.in_ok-classes.ensures.closed in
    decided shapes (facts_in c.args.eqs.now) objects classes x y (by_class objects classes x y) refl sound closed
