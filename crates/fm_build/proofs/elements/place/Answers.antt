use Rattle.std.proofs.Common.{ℕ, Bool, ap, sym, ◌∙◌}
use Rattle.std.specs.Prelude.{◌==◌}
use Rattle.std.specs.List.{position}
use Rattle.fm_base.specs.declared.ids.TermId.{TermId}
use Rattle.fm_build.specs.Marks.{class_at}
use Rattle.fm_build.proofs.Positions.{first_none, first_some}
use Rattle.fm_build.proofs.elements.place.Goals as goal

pub returns-in-Some : goal.returns-in-Some
returns-in-Some c =
    let class = c.args.class.now in
    let reps = c.args.reps.now in
    let p : TermId → Bool = λ (r : TermId). class_at class r.0 == class_at class c.args.term in
    let own = ap (λ (k : ℕ). position (λ (r : TermId). class_at class r.0 == k) reps) c.class_of.ensures in
    first_some p reps c.in-Some.place (sym (c.first_place.ensures ∙ own) ∙ c.in-Some.is)

pub returns-in-None : goal.returns-in-None
returns-in-None c =
    let class = c.args.class.now in
    let reps = c.args.reps.now in
    let p : TermId → Bool = λ (r : TermId). class_at class r.0 == class_at class c.args.term in
    let own = ap (λ (k : ℕ). position (λ (r : TermId). class_at class r.0 == k) reps) c.class_of.ensures in
    first_none p reps (sym (c.first_place.ensures ∙ own) ∙ c.in-None.is)
