-- Where the bound can be written all numbers in size atoms can; and what the last group of the menu offers fails or holds.
use Rattle.std.proofs.Common.{◌≡◌, ℕ, ◌^◌, ◌<◌, true, List, [], Some, None, refl, sym, ap, subst, ◌∙◌, arith}
use Rattle.std.specs.Prelude.{Option, slice_get}
use Rattle.std.specs.Option.{option_map}
use Rattle.std.proofs.lemmas.Bool.{lt-ltb, ltb-true}
use Rattle.fm_base.specs.Interpretations.{Reading}
use Rattle.fm_base.specs.declared.signature.Sig.{Sig}
use Rattle.fm_base.specs.Resolution.{Has}
use Rattle.fm_bank.specs.Clauses.{Satisfies}
use Rattle.fm_bank.specs.declared.atom.Atom.{Atom}
use Rattle.fm_bank.specs.declared.clause.Clause.{Clause as FirstOrderClause}
use Rattle.fm_rounds.specs.Failing.{FailsFirst, IsFirstFailing, first_failing, instance_of, named_of, vars_in}
use Rattle.fm_rounds.specs.Rounds.{candidate_reading, representatives}
use Rattle.fm_rounds.proofs.FirstFailing.{first_failing_is}
use Rattle.fm_steps.specs.Bounds.{SizesAreInRow}
use Rattle.fm_steps.specs.Lines.{BoundsAreWritten, IsWellHeld, is_written}
use Rattle.fm_steps.specs.Offered.{InstanceFails, SatIsMet}
use Rattle.fm_steps.specs.Rows.{content_at}
use Rattle.fm_steps.specs.Sizes.{card}
use Rattle.fm_steps.specs.State.{Problem, State}
use Rattle.fm_steps.proofs.Due.{atom_step, in_all}
use Rattle.fm_steps.proofs.InRow.{has_known, reached_in_row}
use Rattle.fm_steps.proofs.Ready.{instance_ready, sat_ready}
use Rattle.fm_steps.proofs.Runs.{runs_stay_held}

written_by : (p : Problem) (s : State) → IsWellHeld p s → SizesAreInRow p s → s.bound < 2 ^ 64 → (a : Atom) → Has s.held.atoms a → is_written a ≡ true
written_by p s w row lt (Atom.Equal a b) h = refl
written_by p s w row lt (Atom.Pred t) h = refl
written_by p s w row lt (Atom.Card u k) h =
    let sort = ltb-true u.0 s.held.sig.sorts (atom_step s.held.sig s.held.terms [] s.held.atoms (Atom.Card u k) w.held.atoms_good h) in
    let same : s.held.sig.sorts ≡ p.sig.sorts = ap (λ (g : Sig). g.sorts) w.sig in
    let r = row.cards u.0 (omega (arith, sort, same)) in
    let le = (r.known k).0 (has_known s.held.atoms (card u.0 k) h) in
    let low = r.low in
    lt-ltb k (2 ^ 64) (omega (arith, le, low, lt))
written_by p s w row lt (Atom.Bound n) h =
    let le = ((row.bounds n).0 (has_known s.held.atoms (Atom.Bound n) h)).1 in
    lt-ltb n (2 ^ 64) (omega (arith, le, lt))

pub bounds_are_written : BoundsAreWritten
bounds_are_written p b events s sorted h lt = in_all is_written s.held.atoms (written_by p s (runs_stay_held p b events s sorted h) (reached_in_row p b events s h) lt)

-- none fails, or the first that fails
none_fails : (m : Reading) (reps : List (List ℕ)) (cs : List FirstOrderClause) (o : Option (ℕ × List ℕ)) → FailsFirst m cs o → option_map (instance_of reps cs) o ≡ None → Satisfies m cs
none_fails m reps cs None h e = h
none_fails m reps cs (Some f) h e = absurd (cc e)

pub sat_is_met : SatIsMet
sat_is_met p b s k h =
    let c = content_at p s k in
    let r = sat_ready p s k h in
    (r.0, none_fails (candidate_reading c) (representatives c) p.clauses (first_failing (candidate_reading c) p.clauses) (first_failing_is (candidate_reading c) p.clauses) r.1)

fails_at : (m : Reading) (reps : List (List ℕ)) (cs : List FirstOrderClause) (i : ℕ) (env : List ℕ) (o : Option (ℕ × List ℕ)) → FailsFirst m cs o → option_map (instance_of reps cs) o ≡ Some (i, env)
    → (f : ℕ × List ℕ) × IsFirstFailing m cs f.0 f.1 × (f.0 ≡ i) × (named_of reps (vars_in (slice_get cs f.0)) f.1 ≡ env)
fails_at m reps cs i env None h e = absurd (cc e)
fails_at m reps cs i env (Some f) h e = let q : instance_of reps cs f ≡ (i, env) = cc e in (f, h, ap (λ x. x.0) q, ap (λ x. x.1) q)

pub instance_fails : InstanceFails
instance_fails p s k i env h =
    let c = content_at p s k in
    let r = instance_ready i env p s k h in
    let w = fails_at (candidate_reading c) (representatives c) p.clauses i env (first_failing (candidate_reading c) p.clauses) (first_failing_is (candidate_reading c) p.clauses) r.1 in
    let first = w.1 in
    let vars : vars_in (slice_get p.clauses w.0.0) ≡ first.clause.vars = ap vars_in first.stands in
    record {
      bounded = r.0;
      clause = first.clause;
      there = subst (λ n. slice_get p.clauses n ≡ Some first.clause) w.2 first.stands;
      elements = w.0.1;
      within = first.elements;
      named = ap (λ vs. named_of (representatives c) vs w.0.1) (sym vars) ∙ w.3;
      false_there = first.fails;
    }
