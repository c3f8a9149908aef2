-- Added instances stand in the clause list.
use Rattle.std.proofs.Common.{◌≡◌, ◌⊎◌, ℕ, nat_lt, true, List, [], ◌∷◌, map, Some, inl, inr, refl, sym, ap, subst, ◌∙◌}
use Rattle.std.specs.Prelude.{slice_get}
use Rattle.std.specs.List.{list_all}
use Rattle.std.proofs.lemmas.Bool.{and_parts}
use Rattle.fm_base.specs.Resolution.{Has}
use Rattle.fm_base.specs.declared.ids.Lit.{Lit}
use Rattle.fm_base.specs.declared.ids.SortId.{SortId}
use Rattle.fm_base.specs.declared.signature.Sig.{Sig}
use Rattle.fm_bank.specs.Instances.{ground_literals, is_substitution, types_of}
use Rattle.fm_bank.specs.Interning.{IsFront, lit_in, literals_grown, with_atoms}
use Rattle.fm_bank.specs.Sorted.{are_sorted_literals, is_sorted_clause}
use Rattle.fm_bank.specs.Terms.{Term, are_terms}
use Rattle.fm_bank.specs.declared.clause.Clause.{Clause as FirstOrderClause}
use Rattle.fm_bank.specs.declared.literal.Literal.{Literal}
use Rattle.fm_bank.proofs.Growing.{front-refl, literals_fronts}
use Rattle.fm_bank.proofs.Instancing.{literals_put}
use Rattle.fm_bank.proofs.Sorts.{types_kept}
use Rattle.fm_guide.specs.declared.event.Event.{Event}
use Rattle.fm_sat.specs.Learning.{Steps}
use Rattle.fm_steps.specs.Bounds.{AddedStand, InstancesStand, IsAdded}
use Rattle.fm_steps.specs.Lines.{IsSorted, IsWellHeld}
use Rattle.fm_steps.specs.Picks.{Known, Settles}
use Rattle.fm_steps.specs.Rows.{Offer, Row, after_learning, content_at, instance_literals, with_instance}
use Rattle.fm_steps.specs.Runs.{Move, Run, carried}
use Rattle.fm_steps.specs.State.{Budget, Clause, Problem, State}
use Rattle.fm_steps.proofs.Begun.{literals_stay, starts_held}
use Rattle.fm_steps.proofs.Due.{all_in}
use Rattle.fm_steps.proofs.Held.{steps_stay_held}
use Rattle.fm_steps.proofs.Lists.{Has-append, Has-end, Has-get, only_one}
use Rattle.fm_steps.proofs.Numbers.{all_known}
use Rattle.fm_steps.proofs.Starts.{start_added}
use Rattle.fm_steps.proofs.Staying.{IsBehind, move_behind, settled_behind, stands_on}
use Rattle.fm_steps.proofs.Written.{named_typed}

-- what is found stays found
found_on : (sig : Sig) (terms more : List Term) (clause : FirstOrderClause) (env : List ℕ) (ks : List Literal) → are_terms sig terms ≡ true → is_sorted_clause sig clause ≡ true → is_substitution sig terms clause.vars env ≡ true → ground_literals terms env clause.lits ≡ Some ks → IsFront terms more → ground_literals more env clause.lits ≡ Some ks
found_on sig terms more clause env ks good sorted typed found front =
    let lits = (and_parts _ (are_sorted_literals sig clause.vars clause.lits) sorted).1 in
    let put = literals_put sig clause.vars env clause.lits terms good typed lits in
    let stays = literals_stay terms env clause.lits ks found in
    let same : ground_literals more env clause.lits ≡ Some (literals_grown clause.lits env terms).1 = put.stay more (subst (λ (ts : List Term). IsFront ts more) (sym (ap (λ (g : List Term × List Literal). g.0) stays)) front) in
    same ∙ ap (λ (g : List Term × List Literal). Some g.1) stays

added_on : (p : Problem) (s t : State) (i : ℕ) (env : List ℕ) → IsSorted p → IsWellHeld p s → IsBehind s t → IsFront s.held.terms t.held.terms → IsAdded p s i env → IsAdded p t i env
added_on p s t i env sorted w behind front h =
    let good : are_terms p.sig s.held.terms ≡ true = subst (λ (sig : Sig). are_terms sig s.held.terms ≡ true) w.sig w.held.terms_good in
    let is = all_in (is_sorted_clause p.sig) p.clauses h.clause sorted.clauses (Has-get p.clauses i h.clause h.there) in
    let stands = stands_on s t _ behind h.stands in
    record {
      clause = h.clause;
      there = h.there;
      typed = types_kept p.sig s.held.terms t.held.terms env (types_of h.clause.vars) front h.typed;
      literals = h.literals;
      grounded = found_on p.sig s.held.terms t.held.terms h.clause env h.literals good is h.typed h.grounded front;
      stands = record { known = stands.known; has = stands.has };
    }

-- terms grow at the end
learnt_terms : (n : ℕ) (lits : Clause) (l : Lit) (level : ℕ) (steps : Steps) (s : State) → IsFront s.held.terms (after_learning n steps lits l level s).held.terms
learnt_terms n lits l level [] s = front-refl s.held.terms
learnt_terms n lits l level (step ∷ steps) s = front-refl s.held.terms

learnt_added : (n : ℕ) (lits : Clause) (l : Lit) (level : ℕ) (steps : Steps) (s : State) → (after_learning n steps lits l level s).added ≡ s.added
learnt_added n lits l level [] s = refl
learnt_added n lits l level (step ∷ steps) s = refl

abbrev pub TermsGrow : State → State → Type 0
TermsGrow s t = IsFront s.held.terms t.held.terms

same_terms : (s t : State) → t.held.terms ≡ s.held.terms → TermsGrow s t
same_terms s t e = subst (IsFront s.held.terms) (sym e) (front-refl s.held.terms)

-- the same are added, or one instance more that stands
abbrev Adds : Problem → State → State → Type 0
Adds p s t = (i : ℕ) (env : List ℕ) → Has t.added (i, env) → Has s.added (i, env) ⊎ IsAdded p t i env

same_added : (p : Problem) (s t : State) → t.added ≡ s.added → Adds p s t
same_added p s t e i env h = inl (subst (λ (xs : List (ℕ × List ℕ)). Has xs (i, env)) e h)

instance_added : (p : Problem) (s : State) (n : ℕ) (clause : FirstOrderClause) (subst' : List ℕ) → IsSorted p → IsWellHeld p s → slice_get p.clauses n ≡ Some clause → is_substitution p.sig s.held.terms clause.vars subst' ≡ true → IsAdded p (with_instance n clause subst' s) n subst'
instance_added p s n clause env sorted w there typed =
    let terms = s.held.terms in
    let good : are_terms p.sig terms ≡ true = subst (λ (sig : Sig). are_terms sig terms ≡ true) w.sig w.held.terms_good in
    let is = all_in (is_sorted_clause p.sig) p.clauses clause sorted.clauses (Has-get p.clauses n clause there) in
    let lits = (and_parts _ (are_sorted_literals p.sig clause.vars clause.lits) is).1 in
    let g = literals_grown clause.lits env terms in
    let put = literals_put p.sig clause.vars env clause.lits terms good typed lits in
    let ls = instance_literals s.held clause env in
    record {
      clause = clause;
      there = there;
      typed = types_kept p.sig terms g.0 env (types_of clause.vars) (literals_fronts clause.lits env terms) typed;
      literals = g.1;
      grounded = put.stay g.0 (front-refl g.0);
      stands = record { known = all_known ls s.held.atoms; has = Has-end s.clauses (map (lit_in (with_atoms s.held.atoms ls)) ls) };
    }

pub row_adds : (p : Problem) (b : Budget) (s : State) (k : Known) (o : Offer) (t : State) → IsSorted p → IsWellHeld p s → Row p b s k o t → TermsGrow s t × Adds p s t
row_adds p b s k (Offer.Learn n) t sorted w r = (subst (TermsGrow s) (sym r.after) (learnt_terms n r.lits r.lit r.level r.steps s), same_added p s t (ap (λ (u : State). u.added) r.after ∙ learnt_added n r.lits r.lit r.level r.steps s))
row_adds p b s k (Offer.Unit' n) t sorted w r = (same_terms s t (ap (λ (u : State). u.held.terms) r.after), same_added p s t (ap (λ (u : State). u.added) r.after))
row_adds p b s k (Offer.Take e) t sorted w r = (same_terms s t (ap (λ (u : State). u.held.terms) r.after), same_added p s t (ap (λ (u : State). u.added) r.after))
row_adds p b s k (Offer.Lemma e d) t sorted w r = (same_terms s t (ap (λ (u : State). u.held.terms) r.after), same_added p s t (ap (λ (u : State). u.added) r.after))
row_adds p b s k (Offer.Imply e d) t sorted w r = (same_terms s t (ap (λ (u : State). u.held.terms) r.after), same_added p s t (ap (λ (u : State). u.added) r.after))
row_adds p b s k Offer.Turn t sorted w r = (same_terms s t (ap (λ (u : State). u.held.terms) r.after), same_added p s t (ap (λ (u : State). u.added) r.after))
row_adds p b s k (Offer.Decide l) t sorted w r = (same_terms s t (ap (λ (u : State). u.held.terms) r.after), same_added p s t (ap (λ (u : State). u.added) r.after))
row_adds p b s k (Offer.Split a c) t sorted w r = (same_terms s t (ap (λ (u : State). u.held.terms) r.after), same_added p s t (ap (λ (u : State). u.added) r.after))
row_adds p b s k (Offer.Instance n subst') t sorted w r =
    let is = all_in (is_sorted_clause p.sig) p.clauses r.clause sorted.clauses (Has-get p.clauses n r.clause r.there) in
    let vars = (and_parts (list_all (λ (v : SortId). nat_lt v.0 p.sig.sorts) r.clause.vars) (are_sorted_literals p.sig r.clause.vars r.clause.lits) is).0 in
    let typed : is_substitution p.sig s.held.terms r.clause.vars subst' ≡ true = subst (λ ns. is_substitution p.sig s.held.terms r.clause.vars ns ≡ true) r.named (named_typed (content_at p s k) r.clause.vars r.elements vars r.within) in
    let new = instance_added p s n r.clause subst' sorted w r.there typed in (
      subst (TermsGrow s) (sym r.after) (literals_fronts r.clause.lits subst' s.held.terms),
      subst (Adds p s) (sym r.after) (λ i env h. elim (Has-append s.added ((n, subst') ∷ []) (i, env) h) [
        | inl old ↦ inl old
        | inr q ↦ inr (subst (λ (x : ℕ × List ℕ). IsAdded p (with_instance n r.clause subst' s) x.0 x.1) (only_one (n, subst') (i, env) q) new)
      ]),
    )
row_adds p b s k Offer.Raise t sorted w r = (same_terms s t (ap (λ (u : State). u.held.terms) r.after), same_added p s t (ap (λ (u : State). u.added) r.after))
row_adds p b s k (Offer.Answer a) t sorted w r = (same_terms s t (ap (λ (u : State). u.held.terms) r.1), same_added p s t (ap (λ (u : State). u.added) r.1))

settled_added : (p : Problem) (mid t : State) (i : ℕ) (env : List ℕ) → Settles mid t → mid.held.terms ≡ t.held.terms → IsAdded p mid i env → IsAdded p t i env
settled_added p mid t i env m e h =
    let stands = stands_on mid t _ (settled_behind mid t m) h.stands in
    record {
      clause = h.clause;
      there = h.there;
      typed = subst (λ (ts : List Term). is_substitution p.sig ts h.clause.vars env ≡ true) e h.typed;
      literals = h.literals;
      grounded = subst (λ (ts : List Term). ground_literals ts env h.clause.lits ≡ Some h.literals) e h.grounded;
      stands = record { known = stands.known; has = stands.has };
    }

move_added : (p : Problem) (b : Budget) (s : State) (k : Known) (o : Offer) (t : State) → IsSorted p → IsWellHeld p s → AddedStand p s → Move p b s k o t → AddedStand p t
move_added p b s k o t sorted w h m i env has =
    let r = row_adds p b s k o m.mid sorted w m.row in
    let terms : m.mid.held.terms ≡ t.held.terms = sym (ap (λ (u : State). u.held.terms) m.settles.after) in
    let front : TermsGrow s t = subst (IsFront s.held.terms) terms r.0 in
    let here : Has m.mid.added (i, env) = subst (λ (u : State). Has u.added (i, env)) m.settles.after has in
    elim (r.1 i env here) [
      | inl old ↦ added_on p s t i env sorted w (move_behind p b s k o t m) front (h i env old)
      | inr new ↦ settled_added p m.mid t i env m.settles terms new
    ]

run_added : (p : Problem) (b : Budget) (s : State) (es : List Event) (t : State) → IsSorted p → IsWellHeld p s → AddedStand p s → Run p b s es t → AddedStand p t
run_added p b s [] t sorted w h r = subst (AddedStand p) (sym r) h
run_added p b s (e ∷ es) t sorted w h r = run_added p b r.0 es t sorted (steps_stay_held p b s e r.0 sorted w r.1) (move_added p b s r.1.known (carried b s r.1.offer) r.0 sorted w h r.1.move) r.3

pub instances_stand : InstancesStand
instances_stand p b events s sorted h =
    run_added p b h.first events s sorted (starts_held p h.first sorted h.start) (λ i env has. absurd (subst (λ (xs : List (ℕ × List ℕ)). Has xs (i, env)) (start_added p h.first h.start) has)) h.run
