-- The terms of the clauses without variables are registered at the start, and the signature stays.
use Rattle.std.proofs.Common.{◌≡◌, ℕ, ◌==◌, Bool, true, false, cond, List, [], ◌∷◌, length, inl, inr, refl, sym, ap, subst, ◌∙◌, arith}
use Rattle.std.specs.List.{list_all}
use Rattle.std.proofs.lemmas.Bool.{and_parts}
use Rattle.fm_base.specs.Resolution.{Has}
use Rattle.fm_base.specs.declared.ids.SortId.{SortId}
use Rattle.fm_base.specs.declared.signature.Sig.{Sig}
use Rattle.fm_bank.specs.GroundTerms.{ground_literals_grown}
use Rattle.fm_bank.specs.Instances.{is_substitution}
use Rattle.fm_bank.specs.Interning.{IsFront, literals_grown, nothing_over}
use Rattle.fm_bank.specs.Sorted.{are_sorted_literals, is_sorted_clause}
use Rattle.fm_bank.specs.Terms.{Term, are_terms}
use Rattle.fm_bank.specs.declared.clause.Clause.{Clause}
use Rattle.fm_bank.specs.declared.literal.Literal.{Literal}
use Rattle.fm_bank.proofs.GroundGrowing.{ground_agree, ground_literals_fronts, ground_literals_good}
use Rattle.fm_bank.proofs.Growing.{front-refl, front-trans}
use Rattle.fm_bank.proofs.Instancing.{literals_put}
use Rattle.fm_rounds.specs.InstanceTerms.{clauses_ground_grown, fresh_symbols}
use Rattle.fm_steps.specs.Lines.{IsSorted}
use Rattle.fm_steps.specs.Rows.{instance_literals}
use Rattle.fm_steps.specs.Start.{first_terms, with_elements, with_ground_clauses}
use Rattle.fm_steps.specs.State.{Problem, State, with_literals}
use Rattle.fm_steps.proofs.Begun.{constants_front, literals_stay}
use Rattle.fm_steps.proofs.Due.{all_in}
use Rattle.fm_state.specs.Begins.{AreRegistered}

ground_front : (cs : List Clause) (terms : List Term) → IsFront terms (clauses_ground_grown cs terms)
ground_front [] terms = front-refl terms
ground_front (k ∷ cs) terms = front-trans terms (ground_literals_grown k.lits terms) _ (ground_literals_fronts k.lits terms) (ground_front cs (ground_literals_grown k.lits terms))

among_ground : (sig : Sig) (cs : List Clause) (k : Clause) (terms : List Term) → Has cs k → list_all (is_sorted_clause sig) cs ≡ true → are_terms sig terms ≡ true → (mid : List Term) × (are_terms sig mid ≡ true) × IsFront (ground_literals_grown k.lits mid) (clauses_ground_grown cs terms)
among_ground sig [] k terms h e good = absurd h
among_ground sig (d ∷ cs) k terms (inl s) e good = (terms, good, subst (λ (x : Clause). IsFront (ground_literals_grown x.lits terms) (clauses_ground_grown cs (ground_literals_grown d.lits terms))) s (ground_front cs (ground_literals_grown d.lits terms)))
among_ground sig (d ∷ cs) k terms (inr h) e good =
    let p = and_parts (is_sorted_clause sig d) (list_all (is_sorted_clause sig) cs) e in
    let lits = (and_parts _ (are_sorted_literals sig d.vars d.lits) p.0).1 in
    among_ground sig cs k (ground_literals_grown d.lits terms) h p.1 (ground_literals_good sig d.vars d.lits terms good lits)

no_vars : (vars : List SortId) → length vars ≡ 0 → vars ≡ []
no_vars [] e = refl
no_vars (v ∷ vars) e = absurd (omega (arith, e))

module _ (p : Problem) (sorted : IsSorted p) where
  there : (k : Clause) → Has p.clauses k → length k.vars ≡ 0 → (literals_grown k.lits [] (first_terms p)).0 ≡ first_terms p
  there k h none =
      let all = first_terms p in
      let vars = no_vars k.vars none in
      let is = all_in (is_sorted_clause p.sig) p.clauses k sorted.clauses h in
      let lits = (and_parts _ (are_sorted_literals p.sig k.vars k.lits) is).1 in
      let w = among_ground p.sig p.clauses k [] h sorted.clauses refl in
      let mid = w.0 in
      let typed : is_substitution p.sig mid k.vars [] ≡ true = subst (λ (vs : List SortId). is_substitution p.sig mid vs [] ≡ true) (sym vars) refl in
      let put = literals_put p.sig k.vars [] k.lits mid w.1 typed lits in
      let agree : ground_literals_grown k.lits mid ≡ (literals_grown k.lits [] mid).0 = ground_agree p.sig k (record (nothing_over p.sig) { terms = mid }) is vars in
      let front : IsFront (literals_grown k.lits [] mid).0 all = subst (λ (ts : List Term). IsFront ts all) agree (front-trans (ground_literals_grown k.lits mid) (clauses_ground_grown p.clauses []) all w.2 (constants_front (fresh_symbols p) (clauses_ground_grown p.clauses []))) in
      let ks = (literals_grown k.lits [] mid).1 in
      ap (λ (g : List Term × List Literal). g.0) (literals_stay all [] k.lits ks (put.stay all front))

  registered : (cs : List Clause) → ((k : Clause) → Has cs k → Has p.clauses k) → AreRegistered p.sig (first_terms p) cs
  registered [] sub = tt
  registered (k ∷ cs) sub = (record { sorted = all_in (is_sorted_clause p.sig) p.clauses k sorted.clauses (sub k (inl refl)); there = there k (sub k (inl refl)) }, registered cs (λ d h. sub d (inr h)))

  pub all_registered : AreRegistered p.sig (first_terms p) p.clauses
  all_registered = registered p.clauses (λ k h. h)

sig_by : (b : Bool) (s : State) (ls : List Literal) → (cond b (with_literals ls s) s).held.sig ≡ s.held.sig
sig_by true s ls = refl
sig_by false s ls = refl

pub ground_sig : (cs : List Clause) (s : State) → (with_ground_clauses cs s).held.sig ≡ s.held.sig
ground_sig [] s = refl
ground_sig (c ∷ cs) s = ground_sig cs _ ∙ sig_by (length c.vars == 0) s (instance_literals s.held c [])

pub elements_sig : (us : List ℕ) (s : State) → (with_elements us s).held.sig ≡ s.held.sig
elements_sig [] s = refl
elements_sig (u ∷ us) s = elements_sig us _
