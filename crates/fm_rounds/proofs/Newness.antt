-- A failing instance is none that was added, where those that were added are true.
use Rattle.std.proofs.Common.{◌≡◌, ℕ, List, Option, Some, None, sym, ap, ◌∙◌}
use Rattle.std.specs.Prelude.{slice_get}
use Rattle.std.specs.Option.{option_map}
use Rattle.std.proofs.lemmas.Bool.{false≢true}
use Rattle.fm_base.specs.Interpretations.{Reading}
use Rattle.fm_base.specs.Resolution.{Has}
use Rattle.fm_bank.specs.declared.clause.Clause.{Clause}
use Rattle.fm_rounds.specs.Failing.{AreTrueThere, FailsFirst, failing_instance, first_failing, instance_of, named_of, vars_in}
use Rattle.fm_rounds.specs.Soundness.{FailingIsNew}
use Rattle.fm_rounds.proofs.FirstFailing.{first_failing_is}

module _ (m : Reading) (reps : List (List ℕ)) (cs : List Clause) (added : List (ℕ × List ℕ)) (there : AreTrueThere m reps cs added) where
  not_added : (o : Option (ℕ × List ℕ)) (f : ℕ × List ℕ) → FailsFirst m cs o → option_map (instance_of reps cs) o ≡ Some f → Has added f → ⊥
  not_added None f h e i = cc e
  not_added (Some p) f h e i =
      let same : instance_of reps cs p ≡ f = cc e in
      let place : slice_get cs f.0 ≡ Some h.clause = ap (λ (q : ℕ × List ℕ). slice_get cs q.0) (sym same) ∙ h.stands in
      let terms : named_of reps h.clause.vars p.1 ≡ f.1 = sym (ap (λ o. named_of reps (vars_in o) p.1) h.stands) ∙ ap (λ (q : ℕ × List ℕ). q.1) same in
      false≢true (sym h.fails ∙ there f h.clause p.1 i place h.elements terms)

  pub failing_new : (f : ℕ × List ℕ) → failing_instance m reps cs ≡ Some f → Has added f → ⊥
  failing_new f e = not_added (first_failing m cs) f (first_failing_is m cs) e

pub failing_is_new : FailingIsNew
failing_is_new m reps cs added f there e i = failing_new m reps cs added there f e i
