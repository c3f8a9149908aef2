-- A clause of the variables that occur says what the literals say under the whole scope.
use Rattle.std.proofs.Common.{◌≡◌, ℕ, zero, suc, ◌<◌, ◌==◌, Bool, true, false, ◌||◌, cond, List, [], ◌∷◌, map, ap, refl, sym, subst, ◌∙◌}
use Rattle.std.specs.Prelude.{slice_index}
use Rattle.std.specs.List.{list_any}
use Rattle.std.proofs.lemmas.Bool.{eq-eqb, or_left, or_right}
use Rattle.fm_base.specs.Interpretations.{Reading}
use Rattle.fm_base.specs.Models.{IsElements}
use Rattle.fm_base.specs.declared.ids.SortId.{SortId}
use Rattle.fm_base.specs.declared.ids.SymId.{SymId}
use Rattle.fm_base.specs.declared.formula.Patom.{Patom}
use Rattle.fm_base.specs.declared.formula.Pterm
use Rattle.fm_base.specs.declared.formula.Pterm.{Pterm}
use Rattle.fm_base.specs.Normal.{Valued}
use Rattle.fm_bank.specs.Clauses.{ClauseHolds, lits_true, patom_true, signed, value}
use Rattle.fm_bank.specs.declared.clause.Plit.{Plit}
use Rattle.fm_base.proofs.NormalTerms.{Each, term_induction, value_of_var, value_of_app}
use Rattle.fm_clauses.proofs.Terms.{occurs_of_var, occurs_of_app, renamed_of_var, renamed_of_app}
use Rattle.fm_clauses.specs.Narrow.{Renamed, clause_of, occurs, occurs_in_atom, occurs_in_term, renamed, renamed_atom, renamed_literal}
use Rattle.fm_nnf.specs.Places.{Occurs, kept, later, place}

index_step : (b : Bool) (x : ℕ) (ks : List ℕ) (n : ℕ) → slice_index (cond b (x ∷ ks) ks) (cond b (suc n) n) ≡ slice_index ks n
index_step true x ks n = refl
index_step false x ks n = refl

pub kept_index : (p : Occurs) (env : List ℕ) (v : ℕ) → p v ≡ true → slice_index (kept p env) (place p v) ≡ slice_index env v
unfolding place
kept_index p [] v h = refl
kept_index p (x ∷ xs) zero h = ap (λ (b : Bool). slice_index (cond b (x ∷ kept (later p) xs) (kept (later p) xs)) zero) h
kept_index p (x ∷ xs) (suc v) h = index_step (p zero) x (kept (later p) xs) (place (later p) v) ∙ kept_index (later p) xs v h

-- the places read the same
abbrev pub Reads : Occurs → (ℕ → ℕ) → List ℕ → List ℕ → Type 0
Reads p g narrow wide = (v : ℕ) → p v ≡ true → slice_index narrow (g v) ≡ slice_index wide v

module _ (m : Reading) (g : ℕ → ℕ) (narrow wide : List ℕ) where
  abbrev SameValue : Pterm → Type 0
  SameValue t = Reads (occurs_in_term t) g narrow wide → value (renamed t g) m narrow ≡ value t m wide

  same_var : (v : ℕ) → SameValue (Pterm.Var v)
  same_var v reads =
      ap (λ (t : Pterm). value t m narrow) (renamed_of_var v g) ∙ value_of_var (g v) m narrow ∙ reads v (occurs_of_var v v ∙ eq-eqb v v refl) ∙ sym (value_of_var v m wide)

  abbrev SomeOccurs : List Pterm → Occurs
  SomeOccurs ts k = list_any (λ (t : Occurs). t k) (map occurs_in_term ts)

  same_all : (ts : List Pterm) → Each SameValue ts → Reads (SomeOccurs ts) g narrow wide → map (λ (t : Valued). t m narrow) (map value (map (λ (t : Renamed). t g) (map renamed ts))) ≡ map (λ (t : Valued). t m wide) (map value ts)
  same_all [] each reads = refl
  same_all (t ∷ ts) each reads =
      let head = each.0 (λ v h. reads v (or_left (occurs_in_term t v) (SomeOccurs ts v) h)) in
      let tail = same_all ts each.1 (λ v h. reads v (or_right (occurs_in_term t v) (SomeOccurs ts v) h)) in
      λ i. head i ∷ tail i

  same_app : (f : SymId) (ts : List Pterm) → Each SameValue ts → SameValue (Pterm.App f ts)
  same_app f ts each reads =
      let all = same_all ts each (λ v h. reads v (occurs_of_app f ts v ∙ h)) in
      ap (λ (t : Pterm). value t m narrow) (renamed_of_app f ts g) ∙ value_of_app f (map (λ (t : Renamed). t g) (map renamed ts)) m narrow ∙ ap (m.at f.0) all ∙ sym (value_of_app f ts m wide)

  same_value : (t : Pterm) → SameValue t
  same_value = term_induction SameValue same_var same_app

  same_values : (ts : List Pterm) → Reads (λ k. list_any (λ (t : Pterm). occurs_in_term t k) ts) g narrow wide → map (λ (t : Pterm). value t m narrow) (map (λ (t : Pterm). renamed t g) ts) ≡ map (λ (t : Pterm). value t m wide) ts
  same_values [] reads = refl
  same_values (t ∷ ts) reads =
      let head = same_value t (λ v h. reads v (or_left (occurs_in_term t v) (list_any (λ (s : Pterm). occurs_in_term s v) ts) h)) in
      let tail = same_values ts (λ v h. reads v (or_right (occurs_in_term t v) (list_any (λ (s : Pterm). occurs_in_term s v) ts) h)) in
      λ i. head i ∷ tail i

  same_atom : (a : Patom) → Reads (occurs_in_atom a) g narrow wide → patom_true m narrow (renamed_atom g a) ≡ patom_true m wide a
  same_atom (Patom.Pred p ts) reads = ap (λ (xs : List ℕ). m.at p.0 xs == 1) (same_values ts reads)
  same_atom (Patom.Equal a b) reads =
      let left = same_value a (λ v h. reads v (or_left (occurs_in_term a v) (occurs_in_term b v) h)) in
      let right = same_value b (λ v h. reads v (or_right (occurs_in_term a v) (occurs_in_term b v) h)) in
      λ i. left i == right i

  pub same_literals : (lits : List Plit) → Reads (occurs lits) g narrow wide → lits_true m narrow (map (renamed_literal g) lits) ≡ lits_true m wide lits
  same_literals [] reads = refl
  same_literals (l ∷ lits) reads =
      let head = ap (signed l.positive) (same_atom l.atom (λ v h. reads v (or_left (occurs_in_atom l.atom v) (occurs lits v) h))) in
      let tail = same_literals lits (λ v h. reads v (or_right (occurs_in_atom l.atom v) (occurs lits v) h)) in
      λ i. head i || tail i

-- what is kept of a tuple of the scope is a tuple of what is kept of the scope
kept_elements_step : (b : Bool) (m : Reading) (s : SortId) (ss : List SortId) (x : ℕ) (xs : List ℕ) → x < m.size s.0 → IsElements m ss xs → IsElements m (cond b (s ∷ ss) ss) (cond b (x ∷ xs) xs)
kept_elements_step true m s ss x xs lt h = (lt, h)
kept_elements_step false m s ss x xs lt h = h

pub kept_elements : (m : Reading) (p : Occurs) (scope : List SortId) (env : List ℕ) → IsElements m scope env → IsElements m (kept p scope) (kept p env)
kept_elements m p [] [] h = tt
kept_elements m p [] (x ∷ xs) h = absurd h
kept_elements m p (s ∷ ss) [] h = absurd h
kept_elements m p (s ∷ ss) (x ∷ xs) h = kept_elements_step (p zero) m s (kept (later p) ss) x (kept (later p) xs) h.0 (kept_elements m (later p) ss xs h.1)

-- every sort of the scope has an element
abbrev pub AreInhabited : (ℕ → ℕ) → List SortId → Type 0
AreInhabited size [] = Unit {0}
AreInhabited size (s ∷ ss) = (0 < size s.0) × AreInhabited size ss

-- and each tuple of what is kept is what is kept of a tuple
pub record Widened (m : Reading) (p : Occurs) (scope : List SortId) (narrow : List ℕ) : Type 0 where
  pub wide : List ℕ
  pub elements : IsElements m scope wide
  pub is : kept p wide ≡ narrow

widened_with : (b : Bool) (m : Reading) (p : Occurs) (s : SortId) (ss : List SortId) → p zero ≡ b → 0 < m.size s.0 → ((narrow : List ℕ) → IsElements m (kept (later p) ss) narrow → Widened m (later p) ss narrow)
    → (narrow : List ℕ) → IsElements m (cond b (s ∷ kept (later p) ss) (kept (later p) ss)) narrow → Widened m p (s ∷ ss) narrow
widened_with true m p s ss e some rest [] h = absurd h
widened_with true m p s ss e some rest (x ∷ xs) h =
    let w = rest xs h.1 in
    record { wide = x ∷ w.wide; elements = (h.0, w.elements); is = ap (λ (b : Bool). cond b (x ∷ kept (later p) w.wide) (kept (later p) w.wide)) e ∙ ap (λ (ys : List ℕ). x ∷ ys) w.is }
widened_with false m p s ss e some rest narrow h =
    let w = rest narrow h in
    record { wide = 0 ∷ w.wide; elements = (some, w.elements); is = ap (λ (b : Bool). cond b (0 ∷ kept (later p) w.wide) (kept (later p) w.wide)) e ∙ w.is }

pub widened : (m : Reading) (p : Occurs) (scope : List SortId) → AreInhabited m.size scope → (narrow : List ℕ) → IsElements m (kept p scope) narrow → Widened m p scope narrow
widened m p [] some [] h = record { wide = []; elements = tt; is = refl }
widened m p [] some (x ∷ xs) h = absurd h
widened m p (s ∷ ss) some narrow h = widened_with (p zero) m p s ss refl some.0 (widened m (later p) ss some.1) narrow h

abbrev pub HoldsWide : Reading → List SortId → List Plit → Type 0
HoldsWide m scope lits = (env : List ℕ) → IsElements m scope env → lits_true m env lits ≡ true

pub wide_from_clause : (m : Reading) (scope : List SortId) (lits : List Plit) → ClauseHolds m (clause_of scope lits) → HoldsWide m scope lits
wide_from_clause m scope lits holds env h =
    sym (same_literals m (place (occurs lits)) (kept (occurs lits) env) env lits (λ v at. kept_index (occurs lits) env v at)) ∙ holds (kept (occurs lits) env) (kept_elements m (occurs lits) scope env h)

pub clause_from_wide : (m : Reading) (scope : List SortId) (lits : List Plit) → AreInhabited m.size scope → HoldsWide m scope lits → ClauseHolds m (clause_of scope lits)
clause_from_wide m scope lits some holds narrow h =
    let w = widened m (occurs lits) scope some narrow h in
    let reads : Reads (occurs lits) (place (occurs lits)) narrow w.wide = λ v at. subst (λ (xs : List ℕ). slice_index xs (place (occurs lits) v) ≡ slice_index w.wide v) w.is (kept_index (occurs lits) w.wide v at) in
    same_literals m (place (occurs lits)) narrow w.wide lits reads ∙ holds w.wide w.elements
