-- Two readings that agree at tuples of elements agree on well sorted clauses.
use Rattle.std.proofs.Common.{◌≡◌, ℕ, zero, suc, ◌<◌, Bool, true, false, ◌||◌, cond, List, [], ◌∷◌, map, Option, Some, None, refl, sym, subst, ap, ◌∙◌}
use Rattle.std.specs.Prelude.{◌==◌, nat_lt, slice_get, slice_index}
use Rattle.std.proofs.lemmas.Bool.{and_parts, and_from, eqb-true, false≢true, lt-ltb}
use Rattle.fm_base.specs.Interpretations.{IsInterpretation, Reading, is_tuple, values_of}
use Rattle.fm_base.specs.Models.{IsElements}
use Rattle.fm_base.specs.Truth.{Sort, are_arguments, declared_sort, have_one_sort, is_bool, is_of_sort, is_predicate_of, result_of}
use Rattle.fm_base.specs.declared.ids.SortId.{SortId}
use Rattle.fm_base.specs.declared.ids.SymId.{SymId}
use Rattle.fm_base.specs.declared.signature.Rank.{Rank}
use Rattle.fm_base.specs.declared.signature.Sig.{Sig}
use Rattle.fm_base.specs.declared.signature.Ty.{Ty}
use Rattle.fm_base.specs.declared.formula.Patom.{Patom}
use Rattle.fm_base.specs.declared.formula.Pterm.{Pterm}
use Rattle.fm_base.specs.declared.formula.Pterm.TheOpen.{Pterm-F}
use Rattle.fm_base.specs.declared.formula.Pterm.TheViews.{roll-Pterm}
use Rattle.fm_base.specs.declared.formula.Pterm.TheFolds.{fold-roll-Pterm, ind-Pterm, map-Pterm}
use Rattle.fm_base.specs.Normal.{Valued, patom_true, signed, value, value_step}
use Rattle.fm_bank.specs.Clauses.{lits_true}
use Rattle.fm_bank.specs.Sorted.{are_sorted_literals, is_sorted_atom, sort_of, sort_step}
use Rattle.fm_bank.specs.declared.clause.Plit.{Plit}
use Rattle.fm_rounds.specs.Soundness.{ClausesAgree}

sort_parts : (o : Option SortId) (t : Ty) → is_of_sort o t ≡ true → (s : SortId) × (u : SortId) × (o ≡ Some s) × (t ≡ Ty.Of u) × (s.0 ≡ u.0)
sort_parts None t e = absurd (false≢true e)
sort_parts (Some s) Ty.Bool e = absurd (false≢true e)
sort_parts (Some s) (Ty.Of u) e = (s, u, refl, refl, eqb-true s.0 u.0 e)

declared_is : (t : Ty) (s : SortId) → declared_sort t ≡ Some s → t ≡ Ty.Of s
declared_is Ty.Bool s e = cc
declared_is (Ty.Of u) s e = let same : u ≡ s = cc e in ap Ty.Of same

cond_some : (b : Bool) (o : Option SortId) (s : SortId) → cond b o None ≡ Some s → (b ≡ true) × (o ≡ Some s)
cond_some true o s e = (refl, e)
cond_some false o s e = cc

element_at : (m : Reading) (ss : List SortId) (xs : List ℕ) (v : ℕ) (s : SortId) → IsElements m ss xs → slice_get ss v ≡ Some s → slice_index xs v < m.size s.0
element_at m [] xs v s h e = cc
element_at m (t ∷ ss) [] v s h e = absurd h
element_at m (t ∷ ss) (x ∷ xs) zero s (lt, h) e = let same : t ≡ s = cc e in subst (λ (r : SortId). x < m.size r.0) same lt
element_at m (t ∷ ss) (x ∷ xs) (suc v) s (lt, h) e = element_at m ss xs v s h e

module _ (sig : Sig) (m w : Reading) (int : IsInterpretation sig m) (reads : (f : ℕ) (r : Rank) (xs : List ℕ) → slice_get sig.ranks f ≡ Some r → is_tuple m r.args xs ≡ true → w.at f xs ≡ m.at f xs) (vars : List SortId) (env : List ℕ) (elements : IsElements m vars env) where
  abbrev IsAlike : Pterm → Type 0
  IsAlike t = (s : SortId) → sort_of t sig vars ≡ Some s → (value t w env ≡ value t m env) × (value t m env < m.size s.0)

  abbrev Alikes : Type 0
  Alikes = (t : Pterm) × IsAlike t

  abbrev plain : List Alikes → List Pterm
  plain ys = map (λ (e : Alikes). e.0) ys

  abbrev run : Reading → List Pterm → List ℕ
  run r ts = map (λ (k : Valued). k r env) (map value ts)

  one_argument : (t : Pterm) (u : Ty) → IsAlike t → is_of_sort (sort_of t sig vars) u ≡ true → (value t w env ≡ value t m env) × (nat_lt (value t m env) (values_of m u) ≡ true)
  one_argument t u h e =
      let p = sort_parts (sort_of t sig vars) u e in
      let a = h p.0 p.2 in
      (a.0, ap (λ (z : Ty). nat_lt (value t m env) (values_of m z)) p.3 ∙ ap (λ (i : ℕ). nat_lt (value t m env) (m.size i)) (sym p.4) ∙ lt-ltb (value t m env) (m.size p.0.0) a.1)

  arguments_alike : (ys : List Alikes) (us : List Ty) → are_arguments (map sort_of (plain ys)) us sig vars ≡ true → (run w (plain ys) ≡ run m (plain ys)) × (is_tuple m us (run m (plain ys)) ≡ true)
  arguments_alike [] [] e = (refl, refl)
  arguments_alike [] (u ∷ us) e = absurd (false≢true e)
  arguments_alike (y ∷ ys) [] e = absurd (false≢true e)
  arguments_alike (y ∷ ys) (u ∷ us) e =
      let p = and_parts (is_of_sort (sort_of y.0 sig vars) u) (are_arguments (map sort_of (plain ys)) us sig vars) e in
      let one = one_argument y.0 u y.1 p.0 in
      let rest = arguments_alike ys us p.1 in
      ((λ i. one.0 i ∷ rest.0 i), and_from (nat_lt (value y.0 m env) (values_of m u)) (is_tuple m us (run m (plain ys))) one.1 rest.1)

  alike_var : (v : ℕ) → IsAlike (roll-Pterm (Pterm-F.Var v))
  alike_var v s e =
      let there = sym (ap (λ (k : Sort). k sig vars) (fold-roll-Pterm Sort sort_step (Pterm-F.Var v))) ∙ e in
      let one = fold-roll-Pterm Valued value_step (Pterm-F.Var v) in
      (ap (λ (k : Valued). k w env) one ∙ sym (ap (λ (k : Valued). k m env) one), subst (λ n. n < m.size s.0) (sym (ap (λ (k : Valued). k m env) one)) (element_at m vars env v s elements there))

  applied_alike : (f : ℕ) (ys : List Alikes) (o : Option Rank) (s : SortId) → slice_get sig.ranks f ≡ o → result_of (map sort_of (plain ys)) o sig vars ≡ Some s → (w.at f (run w (plain ys)) ≡ m.at f (run m (plain ys))) × (m.at f (run m (plain ys)) < m.size s.0)
  applied_alike f ys None s is e = cc
  applied_alike f ys (Some rank) s is e =
      let p = cond_some (are_arguments (map sort_of (plain ys)) rank.args sig vars) (declared_sort rank.result) s e in
      let a = arguments_alike ys rank.args p.0 in
      let low = int.closed f rank (run m (plain ys)) is a.1 in
      (ap (w.at f) a.0 ∙ reads f rank (run m (plain ys)) is a.1, subst (λ (u : Ty). m.at f (run m (plain ys)) < values_of m u) (declared_is rank.result s p.1) low)

  alike_app : (f : SymId) (ys : List Alikes) → IsAlike (roll-Pterm (Pterm-F.App f (plain ys)))
  alike_app f ys s e =
      let there = sym (ap (λ (k : Sort). k sig vars) (fold-roll-Pterm Sort sort_step (Pterm-F.App f (plain ys)))) ∙ e in
      let a = applied_alike f.0 ys (slice_get sig.ranks f.0) s refl there in
      let one = fold-roll-Pterm Valued value_step (Pterm-F.App f (plain ys)) in
      (ap (λ (k : Valued). k w env) one ∙ a.0 ∙ sym (ap (λ (k : Valued). k m env) one), subst (λ n. n < m.size s.0) (sym (ap (λ (k : Valued). k m env) one)) a.1)

  alike_layer : (y : Pterm-F Alikes) (x : Pterm-F Pterm) → map-Pterm Alikes Pterm (λ e. e.0) y ≡ x → IsAlike (roll-Pterm x)
  alike_layer (Pterm-F.Var v) x is = subst (λ (z : Pterm-F Pterm). IsAlike (roll-Pterm z)) is (alike_var v)
  alike_layer (Pterm-F.App f ys) x is = subst (λ (z : Pterm-F Pterm). IsAlike (roll-Pterm z)) is (alike_app f ys)

  is_alike : (t : Pterm) → IsAlike t
  is_alike = ind-Pterm IsAlike (λ x y is. alike_layer y x is)

  list_alike : (ts : List Pterm) (us : List Ty) → are_arguments (map sort_of ts) us sig vars ≡ true → (map (λ (t : Pterm). value t w env) ts ≡ map (λ (t : Pterm). value t m env) ts) × (is_tuple m us (map (λ (t : Pterm). value t m env) ts) ≡ true)
  list_alike [] [] e = (refl, refl)
  list_alike [] (u ∷ us) e = absurd (false≢true e)
  list_alike (t ∷ ts) [] e = absurd (false≢true e)
  list_alike (t ∷ ts) (u ∷ us) e =
      let p = and_parts (is_of_sort (sort_of t sig vars) u) (are_arguments (map sort_of ts) us sig vars) e in
      let one = one_argument t u (is_alike t) p.0 in
      let rest = list_alike ts us p.1 in
      ((λ i. one.0 i ∷ rest.0 i), and_from (nat_lt (value t m env) (values_of m u)) (is_tuple m us (map (λ (t : Pterm). value t m env) ts)) one.1 rest.1)

  predicate_alike : (f : ℕ) (ts : List Pterm) (o : Option Rank) → slice_get sig.ranks f ≡ o → is_predicate_of (map sort_of ts) o sig vars ≡ true → w.at f (map (λ (t : Pterm). value t w env) ts) ≡ m.at f (map (λ (t : Pterm). value t m env) ts)
  predicate_alike f ts None is e = absurd (false≢true e)
  predicate_alike f ts (Some rank) is e =
      let a = list_alike ts rank.args (and_parts (is_bool rank.result) (are_arguments (map sort_of ts) rank.args sig vars) e).1 in
      ap (w.at f) a.0 ∙ reads f rank (map (λ (t : Pterm). value t m env) ts) is a.1

  sides_alike : (a b : Pterm) (o : Option SortId) → sort_of a sig vars ≡ o → have_one_sort o (sort_of b sig vars) ≡ true → (value a w env == value b w env) ≡ (value a m env == value b m env)
  sides_alike a b None is e = absurd (false≢true e)
  sides_alike a b (Some s) is e =
      let p = sort_parts (sort_of b sig vars) (Ty.Of s) e in
      let left = (is_alike a s is).0 in
      let right = (is_alike b p.0 p.2).0 in
      λ i. left i == right i

  atom_alike : (a : Patom) → is_sorted_atom sig vars a ≡ true → patom_true w env a ≡ patom_true m env a
  atom_alike (Patom.Pred p ts) e = ap (λ n. n == 1) (predicate_alike p.0 ts (slice_get sig.ranks p.0) refl e)
  atom_alike (Patom.Equal a b) e = sides_alike a b (sort_of a sig vars) refl e

  pub literals_alike : (lits : List Plit) → are_sorted_literals sig vars lits ≡ true → lits_true w env lits ≡ lits_true m env lits
  literals_alike [] e = refl
  literals_alike (l ∷ ls) e =
      let p = and_parts (is_sorted_atom sig vars l.atom) (are_sorted_literals sig vars ls) e in
      let one = ap (signed l.positive) (atom_alike l.atom p.0) in
      let rest = literals_alike ls p.1 in
      λ i. one i || rest i

pub clauses_agree : ClausesAgree
clauses_agree sig m w vars xs lits int agree elements sorted = literals_alike sig m w int (λ f r ys e t. agree f r e ys t) vars xs elements lits sorted
