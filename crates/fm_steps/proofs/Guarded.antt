-- Each event whose row is met leaves clauses of which each has a negative size literal where it has a size literal at all.
use Rattle.std.proofs.Common.{◌≡◌, ℕ, ◌+◌, ◌-◌, ◌⊎◌, Bool, true, false, not, cond, nat_le, List, [], ◌∷◌, ◌++◌, length, map, inl, inr, refl, sym, ap, subst, ◌∙◌}
use Rattle.std.specs.List.{flat_map, list_any}
use Rattle.std.proofs.lemmas.Bool.{cond_both, false≢true, not-true}
use Rattle.fm_base.specs.Resolution.{Has}
use Rattle.fm_base.specs.declared.formula.Patom.{Patom}
use Rattle.fm_base.specs.declared.ids.Lit.{Lit}
use Rattle.fm_base.specs.declared.ids.Reader.{Reader}
use Rattle.fm_base.proofs.Resolution.{has_mapped, mapped_has}
use Rattle.fm_bank.specs.Instances.{equality}
use Rattle.fm_bank.specs.Interning.{atom_grown, first_places, is_same_literal, lit_in, literals_grown, with_atoms, with_literal}
use Rattle.fm_bank.specs.Terms.{Term}
use Rattle.fm_bank.specs.Tests.{Tests}
use Rattle.fm_bank.specs.declared.atom.Atom.{Atom}
use Rattle.fm_bank.specs.declared.clause.Plit.{Plit}
use Rattle.fm_bank.specs.declared.literal.Literal.{Literal}
use Rattle.fm_sat.specs.Learning.{LearntBy, Steps}
use Rattle.fm_trail.specs.declared.entry.Entry.{Entry}
use Rattle.fm_trail.proofs.Places.{get_push}
use Rattle.fm_steps.specs.Content.{decides, ground_literals_of, is_size, literals_of, opposites}
use Rattle.fm_steps.specs.Facts.{AreClausesOver, AreGuarded, AtomsAreKnown, ClausesAreGuarded, IsGuarded, TrailIsExplained, size_at}
use Rattle.fm_steps.specs.Lemmas.{Due, IsDue, sum_literals}
use Rattle.fm_steps.specs.Picks.{Known, Settles, pick_literals}
use Rattle.fm_steps.specs.Rows.{Offer, Row, after_learning, instance_literals}
use Rattle.fm_steps.specs.Runs.{Move}
use Rattle.fm_steps.specs.Sizes.{card, lit}
use Rattle.fm_steps.specs.State.{Budget, Clause, Problem, State, read_by}
use Rattle.fm_steps.proofs.Guards.{derived_guarded}
use Rattle.fm_steps.proofs.Known.{row_known}
use Rattle.fm_steps.proofs.Lists.{Has-append, Has-passes, only_one}
use Rattle.fm_steps.proofs.Numbers.{number_size, size_same}

-- the same of literals by their atoms
pub record GuardsItself (ls : List Literal) : Type 0 where
  pub guard : Literal
  pub has : Has ls guard
  pub size : is_size guard.atom ≡ true
  pub negative : guard.positive ≡ false

abbrev pub AreGuards : List Literal → Type 0
AreGuards ls = (k : Literal) → Has ls k → is_size k.atom ≡ true → GuardsItself ls

pub new_guarded : (ls : List Literal) (atoms : List Atom) → AreGuards ls → IsGuarded (size_at (with_atoms atoms ls)) (map (lit_in (with_atoms atoms ls)) ls)
new_guarded ls atoms g m h size =
    let now = with_atoms atoms ls in
    let r = mapped_has (lit_in now) ls m h in
    let here : is_size r.lit.atom ≡ true = sym (number_size ls atoms r.lit r.has) ∙ (ap (λ (x : Lit). size_at now x.atom.0) r.is ∙ size) in
    let n = g r.lit r.has here in
    record { guard = lit_in now n.guard; has = has_mapped (lit_in now) ls n.guard n.has; size = number_size ls atoms n.guard n.has ∙ n.size; negative = n.negative }

pub old_guarded : (atoms : List Atom) (ls : List Literal) (cs : List Clause) → AreClausesOver (length atoms) cs → AreGuarded (size_at atoms) cs → AreGuarded (size_at (with_atoms atoms ls)) cs
old_guarded atoms ls cs known all i c there k h size =
    let g = all i c there k h (sym (size_same ls atoms k.atom.0 (known i c k there h)) ∙ size) in
    record { guard = g.guard; has = g.has; size = size_same ls atoms g.guard.atom.0 (known i c g.guard there g.has) ∙ g.size; negative = g.negative }

push_guarded : (p : ℕ → Bool) (cs : List Clause) (new : Clause) → AreGuarded p cs → IsGuarded p new → AreGuarded p (cs ++ new ∷ [])
push_guarded p cs new h g i c there =
    elim (get_push cs new i c there) [
      | inl old ↦ h i c old
      | inr e ↦ subst (IsGuarded p) e.1 g
    ]

pub adds_guarded : (atoms : List Atom) (cs : List Clause) (ls : List Literal) → AreClausesOver (length atoms) cs → AreGuarded (size_at atoms) cs → AreGuards ls → AreGuarded (size_at (with_atoms atoms ls)) (cs ++ map (lit_in (with_atoms atoms ls)) ls ∷ [])
adds_guarded atoms cs ls known h g = push_guarded (size_at (with_atoms atoms ls)) cs (map (lit_in (with_atoms atoms ls)) ls) (old_guarded atoms ls cs known h) (new_guarded ls atoms g)

pub no_size : (ls : List Literal) → ((k : Literal) → Has ls k → is_size k.atom ≡ false) → AreGuards ls
no_size ls none k h size = absurd (false≢true (sym (none k h) ∙ size))

pub read_ground : (atoms : List Atom) (es : List Entry) (k : Literal) → Has (opposites (ground_literals_of atoms es)) k → is_size k.atom ≡ false
read_ground atoms es k h =
    let r = mapped_has (λ (l : Literal). record { positive = not l.positive; atom = l.atom }) (ground_literals_of atoms es) k h in
    let q = not-true (is_size r.lit.atom) (Has-passes (λ (l : Literal). not (is_size l.atom)) (literals_of atoms es) r.lit r.has) in
    ap (λ (l : Literal). is_size l.atom) (sym r.is) ∙ q

decided_ground : (t : Tests) (a : Atom) (v : Bool) → decides t a v ≡ true → is_size a ≡ false
decided_ground t (Atom.Equal a b) v h = refl
decided_ground t (Atom.Pred p) v h = refl
decided_ground t (Atom.Card s k) v h = absurd (false≢true h)
decided_ground t (Atom.Bound n) v h = absurd (false≢true h)

sum_has : (s : State) (u : ℕ) (ks : List ℕ) → Has (sum_literals s u ks) (lit false (Atom.Bound s.bound))
sum_has s u [] = inl refl
sum_has s u (k ∷ ks) = inr (sum_has s (u + 1) ks)

pub value_ground : (atoms : List Atom) (es : List Entry) (t : Tests) (a : Atom) (v : Bool) (k : Literal) → decides t a v ≡ true → (k ≡ lit v a) ⊎ Has (opposites (ground_literals_of atoms es)) k → is_size k.atom ≡ false
value_ground atoms es t a v k d (inl e) = ap (λ (l : Literal). is_size l.atom) e ∙ decided_ground t a v d
value_ground atoms es t a v k d (inr h) = read_ground atoms es k h

pub due_guards : (s : State) (k : Known) (r : Reader) (d : Due) (ls : List Literal) → IsDue s k r d ls → AreGuards ls
due_guards s k Reader.Congruence Due.Clash ls h = no_size ls (λ l has. read_ground s.held.atoms (read_by Reader.Congruence s) l (h.read l has))
due_guards s k Reader.Congruence (Due.Value a v) ls h = no_size ls (λ l has. value_ground s.held.atoms (read_by Reader.Congruence s) k.congruence a v l h.decided (h.read l has))
due_guards s k Reader.Regions (Due.Clique u) ls h = subst AreGuards (sym h.is) (λ l has size. record { guard = lit false (card u (length h.pick.terms - 1)); has = inl refl; size = refl; negative = refl })
due_guards s k Reader.Sum Due.SumBound ls h = subst AreGuards (sym h.is) (λ l has size. record { guard = lit false (Atom.Bound s.bound); has = sum_has s 0 h.ks; size = refl; negative = refl })
due_guards s k Reader.Sum (Due.CardOrder u j) ls h = subst AreGuards (sym h.is) (λ l has size. record { guard = lit false (card u j); has = inl refl; size = refl; negative = refl })
due_guards s k Reader.Sum (Due.BoundOrder n) ls h = subst AreGuards (sym h.is) (λ l has size. record { guard = lit false (Atom.Bound n); has = inl refl; size = refl; negative = refl })
due_guards s k r d ls h = absurd h

pub equality_ground : (a b : ℕ) → is_size (equality a b) ≡ false
equality_ground a b = cond_both (nat_le a b) _ _ (λ (x : Atom). is_size x ≡ false) (λ q. refl) (λ q. refl)

atom_ground : (x : Patom) (env : List ℕ) (terms : List Term) → is_size (atom_grown x env terms).1 ≡ false
atom_ground (Patom.Pred p ts) env terms = refl
atom_ground (Patom.Equal a b) env terms = equality_ground _ _

grown_ground : (lits : List Plit) (env : List ℕ) (terms : List Term) (k : Literal) → Has (literals_grown lits env terms).1 k → is_size k.atom ≡ false
grown_ground [] env terms k h = absurd h
grown_ground (l ∷ ls) env terms k (inl e) = ap (λ (x : Literal). is_size x.atom) (sym e) ∙ atom_ground l.atom env terms
grown_ground (l ∷ ls) env terms k (inr h) = grown_ground ls env (atom_grown l.atom env terms).0 k h

kept_by : (b : Bool) (kept : List Literal) (l k : Literal) → Has (cond b kept (kept ++ l ∷ [])) k → Has kept k ⊎ (l ≡ k)
kept_by true kept l k h = inl h
kept_by false kept l k h = elim (Has-append kept (l ∷ []) k h) [ inl q ↦ inl q | inr q ↦ inr (only_one l k q) ]

pub places_from : (kept ls : List Literal) (k : Literal) → Has (first_places kept ls) k → Has kept k ⊎ Has ls k
places_from kept [] k h = inl h
places_from kept (l ∷ ls) k h =
    elim (places_from (with_literal kept l) ls k h) [
      | inl q ↦ elim (kept_by (list_any (is_same_literal l) kept) kept l k q) [ inl a ↦ inl a | inr e ↦ inr (inl e) ]
      | inr q ↦ inr (inr q)
    ]

pub instance_ground : (terms : List Term) (lits : List Plit) (env : List ℕ) (k : Literal) → Has (first_places [] (literals_grown lits env terms).1) k → is_size k.atom ≡ false
instance_ground terms lits env k h = elim (places_from [] (literals_grown lits env terms).1 k h) [ inl q ↦ absurd q | inr q ↦ grown_ground lits env terms k q ]

learnt : (n : ℕ) (lits : Clause) (l : Lit) (level : ℕ) (steps : Steps) (s : State) → ClausesAreGuarded s → LearntBy s.clauses s.trail.entries n steps lits → ClausesAreGuarded (after_learning n steps lits l level s)
learnt n lits l level [] s h k = h
learnt n lits l level (step ∷ steps) s h k = push_guarded (size_at s.held.atoms) s.clauses lits h (derived_guarded (size_at s.held.atoms) 1 s.clauses s.trail.entries k.0 (step ∷ steps) lits h (h n k.0 k.1) k.2)

pub row_guarded : (p : Problem) (b : Budget) (s : State) (k : Known) (o : Offer) (t : State) → AtomsAreKnown s → ClausesAreGuarded s → Row p b s k o t → ClausesAreGuarded t
row_guarded p b s k (Offer.Learn n) t a h r = subst ClausesAreGuarded (sym r.after) (learnt n r.lits r.lit r.level r.steps s h r.learnt)
row_guarded p b s k (Offer.Unit' n) t a h r = subst ClausesAreGuarded (sym r.after) h
row_guarded p b s k (Offer.Take e) t a h r = subst ClausesAreGuarded (sym r.after) h
row_guarded p b s k (Offer.Lemma e d) t a h r = subst ClausesAreGuarded (sym r.after) (adds_guarded s.held.atoms s.clauses r.lits a.clauses h (due_guards s k e d r.lits r.due))
row_guarded p b s k (Offer.Imply e d) t a h r = subst ClausesAreGuarded (sym r.after) (adds_guarded s.held.atoms s.clauses r.lits a.clauses h (due_guards s k e d r.lits r.due))
row_guarded p b s k Offer.Turn t a h r = subst ClausesAreGuarded (sym r.after) h
row_guarded p b s k (Offer.Decide l) t a h r = subst ClausesAreGuarded (sym r.after) (old_guarded s.held.atoms (l ∷ []) s.clauses a.clauses h)
row_guarded p b s k (Offer.Split c d) t a h r = subst ClausesAreGuarded (sym r.after) (old_guarded s.held.atoms (lit true (equality c d) ∷ []) s.clauses a.clauses h)
row_guarded p b s k (Offer.Instance i terms) t a h r = subst ClausesAreGuarded (sym r.after) (adds_guarded s.held.atoms s.clauses (instance_literals s.held r.clause terms) a.clauses h (no_size _ (instance_ground s.held.terms r.clause.lits terms)))
row_guarded p b s k Offer.Raise t a h r = subst ClausesAreGuarded (sym r.after) (old_guarded s.held.atoms (lit true (Atom.Bound (s.bound + 1)) ∷ []) s.clauses a.clauses h)
row_guarded p b s k (Offer.Answer w) t a h r = subst ClausesAreGuarded (sym r.1) h

pub settled_guarded : (mid t : State) → AtomsAreKnown mid → ClausesAreGuarded mid → Settles mid t → ClausesAreGuarded t
settled_guarded mid t a h m = subst ClausesAreGuarded (sym m.after) (old_guarded mid.held.atoms (flat_map pick_literals m.picks) mid.clauses a.clauses h)

pub move_guarded : (p : Problem) (b : Budget) (s : State) (k : Known) (o : Offer) (t : State) → AtomsAreKnown s → TrailIsExplained s → ClausesAreGuarded s → Move p b s k o t → ClausesAreGuarded t
move_guarded p b s k o t a x h m = settled_guarded m.mid t (row_known p b s k o m.mid a x m.row) (row_guarded p b s k o m.mid a h m.row) m.settles
