-- No clause of the list has a literal twice.
use Rattle.std.proofs.Common.{◌≡◌, ℕ, zero, suc, ◌+◌, ◌==◌, Bool, true, false, cond, List, [], ◌∷◌, ◌++◌, length, map, slice_get, Some, inl, inr, refl, sym, ap, subst, ◌∙◌, arith}
use Rattle.std.specs.List.{list_all, list_any, range_with_len}
use Rattle.std.proofs.lemmas.Bool.{and_from, and_parts, true≢false}
use mathlib.Core.Bool.{beq}
use Rattle.fm_base.specs.Resolution.{AreDistinct, Has}
use Rattle.fm_base.specs.declared.ids.Lit.{Lit}
use Rattle.fm_base.proofs.Resolution.{mapped_has}
use Rattle.fm_bank.specs.Interning.{atom_number, find_atom, first_places, is_same_literal, lit_in, literals_grown, with_atoms, with_literal}
use Rattle.fm_bank.specs.declared.atom.Atom.{Atom}
use Rattle.fm_bank.specs.declared.clause.Clause.{Clause as FirstOrderClause}
use Rattle.fm_bank.specs.declared.literal.Literal.{Literal}
use Rattle.fm_bank.proofs.Atoms.{is_same_atom-refl}
use Rattle.fm_guide.specs.declared.event.Event.{Event}
use Rattle.fm_rounds.proofs.Members.{in_any, in_range}
use Rattle.fm_sat.specs.Learning.{Steps}
use Rattle.fm_steps.specs.Lemmas.{is_some_number}
use Rattle.fm_steps.specs.Offered.{AreClausesDistinct, UnitLemmasAreNewInRuns}
use Rattle.fm_steps.specs.Picks.{Known}
use Rattle.fm_steps.specs.Rows.{Offer, Row, after_learning, instance_literals}
use Rattle.fm_steps.specs.Runs.{IsReached, IsStart, Move, Run, carried}
use Rattle.fm_steps.specs.Sizes.{card, lit}
use Rattle.fm_steps.specs.Start.{empty_state, with_elements, with_first_sum, with_ground_clauses}
use Rattle.fm_steps.specs.State.{Budget, Clause, Problem, State, with_literals}
use Rattle.fm_steps.proofs.Lists.{Has-append, Has-get, distinct_push, only_one}
use Rattle.fm_steps.proofs.Numbers.{all_known, get_place, known_any}
use Rattle.fm_steps.proofs.Offered.{unit_new}
use Rattle.fm_steps.proofs.Running.{reached_good}
use Rattle.fm_steps.proofs.Written.{has_place}

-- each literal at its first place
sign_same : (b : Bool) → beq b b ≡ true
sign_same true = refl
sign_same false = refl

itself : (l : Literal) → is_same_literal l l ≡ true
itself l = and_from (beq l.positive l.positive) _ (sign_same l.positive) (is_same_atom-refl l.atom)

kept_distinct : (b : Bool) (kept : List Literal) (l : Literal) → list_any (is_same_literal l) kept ≡ b → AreDistinct kept → AreDistinct (cond b kept (kept ++ l ∷ []))
kept_distinct true kept l e h = h
kept_distinct false kept l e h = distinct_push kept l h (λ q. true≢false (sym (in_any (is_same_literal l) kept l q (itself l)) ∙ e))

places_from : (ls kept : List Literal) → AreDistinct kept → AreDistinct (first_places kept ls)
places_from [] kept h = h
places_from (l ∷ ls) kept h = places_from ls (with_literal kept l) (kept_distinct (list_any (is_same_literal l) kept) kept l refl h)

pub places_distinct : (ls : List Literal) → AreDistinct (first_places [] ls)
places_distinct ls = places_from ls [] tt

-- literals with known atoms are told apart by number
one_literal : (atoms : List Atom) (k l : Literal) → is_some_number (find_atom atoms k.atom) ≡ true → is_some_number (find_atom atoms l.atom) ≡ true → lit_in atoms k ≡ lit_in atoms l → k ≡ l
one_literal atoms k l known there e =
    let number : atom_number atoms k.atom ≡ atom_number atoms l.atom = ap (λ (x : Lit). x.atom.0) e in
    let found : Some k.atom ≡ Some l.atom = sym (get_place atoms k.atom (known_any atoms k.atom known)) ∙ (ap (slice_get atoms) number ∙ get_place atoms l.atom (known_any atoms l.atom there)) in
    let sign : k.positive ≡ l.positive = ap (λ (x : Lit). x.positive) e in
    let same : k.atom ≡ l.atom = cc found in
    λ i. record { positive = sign i; atom = same i }

pub numbered_distinct : (atoms : List Atom) (ls : List Literal) → list_all (λ (l : Literal). is_some_number (find_atom atoms l.atom)) ls ≡ true → AreDistinct ls → AreDistinct (map (lit_in atoms) ls)
numbered_distinct atoms [] known h = tt
numbered_distinct atoms (l ∷ ls) known h =
    let p = and_parts (is_some_number (find_atom atoms l.atom)) (list_all (λ (k : Literal). is_some_number (find_atom atoms k.atom)) ls) known in (
      (λ q. let w = mapped_has (lit_in atoms) ls (lit_in atoms l) q in h.0 (subst (Has ls) (one_literal atoms w.lit l (one_known ls w.lit w.has p.1) p.0 w.is) w.has)),
      numbered_distinct atoms ls p.1 h.1,
    )
  where
    one_known : (ls : List Literal) (k : Literal) → Has ls k → list_all (λ (l : Literal). is_some_number (find_atom atoms l.atom)) ls ≡ true → is_some_number (find_atom atoms k.atom) ≡ true
    one_known [] k q e = absurd q
    one_known (j ∷ ls) k (inl s) e = ap (λ (x : Literal). is_some_number (find_atom atoms x.atom)) (sym s) ∙ (and_parts (is_some_number (find_atom atoms j.atom)) _ e).0
    one_known (j ∷ ls) k (inr q) e = one_known ls k q (and_parts (is_some_number (find_atom atoms j.atom)) _ e).1

-- all clauses of a list
abbrev AllDistinct : List Clause → Type 0
AllDistinct cs = (c : Clause) → Has cs c → AreDistinct c

pushed : (cs : List Clause) (c : Clause) → AllDistinct cs → AreDistinct c → AllDistinct (cs ++ c ∷ [])
pushed cs c h d x q = elim (Has-append cs (c ∷ []) x q) [ inl a ↦ h x a | inr a ↦ subst AreDistinct (only_one c x a) d ]

with_distinct : (s : State) (ls : List Literal) → AreDistinct ls → AllDistinct s.clauses → AllDistinct (with_literals ls s).clauses
with_distinct s ls d h = pushed s.clauses (map (lit_in (with_atoms s.held.atoms ls)) ls) h (numbered_distinct (with_atoms s.held.atoms ls) ls (all_known ls s.held.atoms) d)

-- at the start
by_distinct : (b : Bool) (s : State) (ls : List Literal) → AreDistinct ls → AllDistinct s.clauses → AllDistinct (cond b (with_literals ls s) s).clauses
by_distinct true s ls d h = with_distinct s ls d h
by_distinct false s ls d h = h

ground_distinct : (cs : List FirstOrderClause) (s : State) → AllDistinct s.clauses → AllDistinct (with_ground_clauses cs s).clauses
ground_distinct [] s h = h
ground_distinct (c ∷ cs) s h = ground_distinct cs _ (by_distinct (length c.vars == 0) s (instance_literals s.held c []) (places_distinct (literals_grown c.lits [] s.held.terms).1) h)

elements_distinct : (us : List ℕ) (s : State) → AllDistinct s.clauses → AllDistinct (with_elements us s).clauses
elements_distinct [] s h = h
elements_distinct (u ∷ us) s h = elements_distinct us _ (with_distinct s (lit false (card u 0) ∷ []) (λ q. q, tt) h)

abbrev sort_in : Atom → ℕ
sort_in (Atom.Card u k) = u.0
sort_in (Atom.Equal a b) = 0
sort_in (Atom.Pred t) = 0
sort_in (Atom.Bound n) = 0

cards_distinct : (a n : ℕ) → AreDistinct (map (λ u. lit true (card u 0)) (range_with_len a n))
cards_distinct a zero = tt
cards_distinct a (suc n) = (
  (λ q. let w = mapped_has (λ u. lit true (card u 0)) (range_with_len (a + 1) n) (lit true (card a 0)) q in
      let low = (in_range w.lit (a + 1) n w.has).0 in
      let same : w.lit ≡ a = ap (λ (l : Literal). sort_in l.atom) w.is in
      absurd (omega (arith, low, same))),
  cards_distinct (a + 1) n,
)

sum_distinct : (m : ℕ) (s : State) → AllDistinct s.clauses → AllDistinct (with_first_sum m s).clauses
sum_distinct zero s h = h
sum_distinct (suc m) s h =
    let ls : List Literal = map (λ u. lit true (card u 0)) (range_with_len 0 (suc m)) in
    let last : Literal = lit false (Atom.Bound m) in
    with_distinct s (ls ++ last ∷ []) (distinct_push ls last (cards_distinct 0 (suc m)) (λ q. let w = mapped_has (λ u. lit true (card u 0)) (range_with_len 0 (suc m)) last q in true≢false (ap (λ (l : Literal). l.positive) w.is))) h

start_distinct : (p : Problem) (s : State) → IsStart p s → AllDistinct s.clauses
start_distinct p s st =
    let m = p.sig.sorts in
    let s1 = with_ground_clauses p.clauses (empty_state p) in
    let s2 = with_elements (range_with_len 0 m) s1 in
    subst (λ (t : State). AllDistinct t.clauses) (sym st.after) (sum_distinct m s2 (elements_distinct (range_with_len 0 m) s1 (ground_distinct p.clauses (empty_state p) (λ c q. absurd q))))

-- each event
learnt : (n : ℕ) (lits : Clause) (l : Lit) (level : ℕ) (steps : Steps) (s : State) → AreDistinct lits → AllDistinct s.clauses → AllDistinct (after_learning n steps lits l level s).clauses
learnt n lits l level [] s d h = h
learnt n lits l level (step ∷ steps) s d h = pushed s.clauses lits h d

abbrev Are : State → Type 0
Are s = AllDistinct s.clauses

row_distinct : (p : Problem) (b : Budget) (s : State) (k : Known) (o : Offer) (t : State) → Are s → Row p b s k o t → Are t
row_distinct p b s k (Offer.Learn n) t h r = subst Are (sym r.after) (learnt n r.lits r.lit r.level r.steps s r.distinct h)
row_distinct p b s k (Offer.Unit' n) t h r = subst Are (sym r.after) h
row_distinct p b s k (Offer.Take e) t h r = subst Are (sym r.after) h
row_distinct p b s k (Offer.Lemma e d) t h r = subst Are (sym r.after) (with_distinct s r.lits r.distinct h)
row_distinct p b s k (Offer.Imply e d) t h r = subst Are (sym r.after) (with_distinct s r.lits r.distinct h)
row_distinct p b s k Offer.Turn t h r = subst Are (sym r.after) h
row_distinct p b s k (Offer.Decide l) t h r = subst Are (sym r.after) h
row_distinct p b s k (Offer.Split a c) t h r = subst Are (sym r.after) h
row_distinct p b s k (Offer.Instance i env) t h r = subst Are (sym r.after) (with_distinct s (instance_literals s.held r.clause env) (places_distinct (literals_grown r.clause.lits env s.held.terms).1) h)
row_distinct p b s k Offer.Raise t h r = subst Are (sym r.after) h
row_distinct p b s k (Offer.Answer w) t h r = subst Are (sym r.1) h

move_distinct : (p : Problem) (b : Budget) (s : State) (k : Known) (o : Offer) (t : State) → Are s → Move p b s k o t → Are t
move_distinct p b s k o t h m = subst Are (sym m.settles.after) (row_distinct p b s k o m.mid h m.row)

run_distinct : (p : Problem) (b : Budget) (s : State) (es : List Event) (t : State) → Are s → Run p b s es t → Are t
run_distinct p b s [] t h r = subst Are (sym r) h
run_distinct p b s (e ∷ es) t h r = run_distinct p b r.0 es t (move_distinct p b s r.1.known (carried b s r.1.offer) r.0 h r.1.move) r.3

by_places : (s : State) → Are s → AreClausesDistinct s
by_places s h i c at = h c (Has-get s.clauses i c at)

of_places : (s : State) → AreClausesDistinct s → Are s
of_places s h c q = let at = has_place s.clauses c q in h at.0 c at.1

pub starts_distinct : (p : Problem) (s : State) → IsStart p s → AreClausesDistinct s
starts_distinct p s st = by_places s (start_distinct p s st)

pub moves_distinct : (p : Problem) (b : Budget) (s : State) (k : Known) (o : Offer) (t : State) → AreClausesDistinct s → Move p b s k o t → AreClausesDistinct t
moves_distinct p b s k o t h m = by_places t (move_distinct p b s k o t (of_places s h) m)

pub runs_distinct : (p : Problem) (b : Budget) (events : List Event) (s : State) → IsReached p b events s → AreClausesDistinct s
runs_distinct p b events s h = by_places s (run_distinct p b h.first events s (start_distinct p h.first h.start) h.run)

pub unit_new_in_runs : UnitLemmasAreNewInRuns
unit_new_in_runs p b events s ls l h none unit q = unit_new s ls l (reached_good p b events s h).lawful.atoms (runs_distinct p b events s h) none unit q
