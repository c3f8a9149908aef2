-- Each event whose row is met leaves a trail with levels and reasons, on which no atom stands twice.
use Rattle.std.proofs.Common.{◌≡◌, ℕ, true, not, List, [], ◌∷◌, ◌++◌, length, map, slice_get, Some, sym, ap, subst, ◌∙◌}
use Rattle.fm_base.specs.declared.ids.Lit.{Lit}
use Rattle.fm_base.proofs.Resolution.{has_mapped, mapped_has}
use Rattle.fm_bank.specs.Interning.{lit_in, with_atom, with_atoms}
use Rattle.fm_bank.specs.declared.atom.Atom.{Atom}
use Rattle.fm_bank.specs.declared.literal.Literal.{Literal}
use Rattle.fm_sat.specs.Learning.{IsAsserting, IsReason, LearntBy, Steps}
use Rattle.fm_sat.proofs.Asserting.{asserting_goes_on, learning_goes_on'}
use Rattle.fm_sat.proofs.Explaining.{unit_reason}
use Rattle.fm_trail.specs.Trail.{is_false}
use Rattle.fm_steps.specs.Facts.{AtomsAreKnown, TrailIsExplained}
use Rattle.fm_steps.specs.Lemmas.{IsUnitLemma, are_known}
use Rattle.fm_steps.specs.Picks.{Known}
use Rattle.fm_steps.specs.Rows.{Offer, Row, after_learning}
use Rattle.fm_steps.specs.Runs.{Move}
use Rattle.fm_steps.specs.State.{Budget, Clause, Problem, State, put, with_literals}
use Rattle.fm_steps.proofs.Lists.{get_last}
use Rattle.fm_steps.proofs.Numbers.{with_all_known}
use Rattle.fm_steps.proofs.Trails.{explained_added, explained_back, explained_decided, explained_implied, explained_on, none_by_new_number, none_by_number, value_by_number}

learnt : (n : ℕ) (lits : Clause) (l : Lit) (level : ℕ) (steps : Steps) (s : State) → TrailIsExplained s → LearntBy s.clauses s.trail.entries n steps lits → IsAsserting s.trail.entries lits l level → TrailIsExplained (after_learning n steps lits l level s)
learnt n lits l level [] s h k a = explained_on s.clauses s.clauses s.trail.entries n l level h (asserting_goes_on s.clauses s.trail.entries n k.0 lits l level h k.1 k.2 a)
learnt n lits l level (step ∷ steps) s h k a = explained_on s.clauses (s.clauses ++ lits ∷ []) s.trail.entries (length s.clauses) l level h (learning_goes_on' s.clauses s.trail.entries lits l level h a)

-- a unit lemma whose atoms are known is a reason, by the numbers of its atoms
pub lemma_reason : (s : State) (cs : List Clause) (n : ℕ) (lits : List Literal) (l : Literal) → IsUnitLemma s lits l → slice_get cs n ≡ Some (map (lit_in s.held.atoms) lits) → IsReason cs s.trail.entries (lit_in s.held.atoms l) n
lemma_reason s cs n lits l unit stored = record {
  clause = map (lit_in s.held.atoms) lits;
  stored = stored;
  has = has_mapped (lit_in s.held.atoms) lits l unit.has;
  others = λ m h ne. let r = mapped_has (lit_in s.held.atoms) lits m h in
      let fails = unit.others r.lit r.has (λ e. ne (sym r.is ∙ ap (lit_in s.held.atoms) e)) in
      subst (λ (k : Lit). is_false s.trail.entries k ≡ true) r.is (value_by_number s.trail.entries s.held.atoms r.lit.atom (not r.lit.positive) fails);
}

-- a lemma whose atoms are known, as the clause by numbers
pub by_numbers : (s : State) (lits : List Literal) → are_known s lits ≡ true → map (lit_in s.held.atoms) lits ≡ map (lit_in (with_atoms s.held.atoms lits)) lits
by_numbers s lits known = sym (ap (λ (as' : List Atom). map (lit_in as') lits) (with_all_known s.held.atoms lits known))

implied_lemma : (s : State) (lits : List Literal) (l : Literal) → AtomsAreKnown s → TrailIsExplained s → are_known s lits ≡ true → IsUnitLemma s lits l → TrailIsExplained (put (lit_in s.held.atoms l) (length s.clauses) (with_literals lits s))
implied_lemma s lits l n h known unit =
    let c : Clause = map (lit_in (with_atoms s.held.atoms lits)) lits in
    let stored : slice_get (s.clauses ++ c ∷ []) (length s.clauses) ≡ Some (map (lit_in s.held.atoms) lits) = get_last s.clauses c ∙ ap (λ (d : Clause). Some d) (sym (by_numbers s lits known)) in
    explained_implied (s.clauses ++ c ∷ []) s.trail.entries (lit_in s.held.atoms l) (length s.clauses) (explained_added s.clauses c s.trail.entries h) (lemma_reason s (s.clauses ++ c ∷ []) (length s.clauses) lits l unit stored) (none_by_number s.trail.entries s.held.atoms l.atom n.trail unit.unset)

row_explained : (p : Problem) (b : Budget) (s : State) (k : Known) (o : Offer) (t : State) → AtomsAreKnown s → TrailIsExplained s → Row p b s k o t → TrailIsExplained t
row_explained p b s k (Offer.Learn n) t a h r = subst TrailIsExplained (sym r.after) (learnt n r.lits r.lit r.level r.steps s h r.learnt r.asserting)
row_explained p b s k (Offer.Unit' n) t a h r =
    let u = unit_reason s.clauses s.trail.entries n r.lit r.unit in
    subst TrailIsExplained (sym r.after) (explained_implied s.clauses s.trail.entries r.lit n h u.0 u.1)
row_explained p b s k (Offer.Take e) t a h r = subst TrailIsExplained (sym r.after) h
row_explained p b s k (Offer.Lemma e d) t a h r = subst TrailIsExplained (sym r.after) (explained_added s.clauses _ s.trail.entries h)
row_explained p b s k (Offer.Imply e d) t a h r = subst TrailIsExplained (sym r.after) (implied_lemma s r.lits r.lit a h r.known r.unit)
row_explained p b s k Offer.Turn t a h r = subst TrailIsExplained (sym r.after) (explained_back s.clauses s.trail.entries 0 h)
row_explained p b s k (Offer.Decide l) t a h r =
    subst TrailIsExplained (sym r.after) (explained_decided s.clauses s.trail.entries (lit_in (with_atom s.held.atoms l.atom) l) h (none_by_new_number s.trail.entries s.held.atoms l.atom a.trail r.unset))
row_explained p b s k (Offer.Split c d) t a h r = subst TrailIsExplained (sym r.after) h
row_explained p b s k (Offer.Instance i terms) t a h r = subst TrailIsExplained (sym r.after) (explained_added s.clauses _ s.trail.entries h)
row_explained p b s k Offer.Raise t a h r = subst TrailIsExplained (sym r.after) (explained_back s.clauses s.trail.entries 0 h)
row_explained p b s k (Offer.Answer w) t a h r = subst TrailIsExplained (sym r.1) h

pub move_explained : (p : Problem) (b : Budget) (s : State) (k : Known) (o : Offer) (t : State) → AtomsAreKnown s → TrailIsExplained s → Move p b s k o t → TrailIsExplained t
move_explained p b s k o t a h m = subst TrailIsExplained (sym m.settles.after) (row_explained p b s k o m.mid a h m.row)
