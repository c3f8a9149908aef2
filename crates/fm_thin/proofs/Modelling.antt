-- The interpretation of one element a sort, with the value 0 everywhere: it fits the signature, and without `false` among
-- thin assertions all of them are true in it.
use Rattle.std.proofs.Common.{◌≡◌, ◌≢◌, ℕ, zero, suc, ◌+◌, ◌<◌, ◌≤◌, inl, inr, Bool, true, false, ◌&&◌, ◌||◌, not, List, [], ◌∷◌, length, replicate, Option, Some, None, ap, refl, sym, subst, ◌∙◌, arith}
use Rattle.std.specs.Prelude.{nat_le, nat_lt, slice_get, slice_index, All}
use Rattle.std.specs.List.{list_all}
use Rattle.std.specs.Option.{option_map}
use Rattle.std.proofs.lemmas.Bool.{and_parts, and_from, eq-eqb, lt-ltb, ltb-true}
use Rattle.std.proofs.lemmas.List.{length-replicate, get_or-replicate}
use Rattle.std.proofs.lemmas.List.Elements.{All-nil, All-cons}
use Rattle.fm_base.specs.Interpretations.{Reading, reading_of, is_fit, is_table, are_tables, is_sort_of, is_nil, entry_at, names_its_sorts, values_of}
use Rattle.fm_base.specs.Models.{sum_below}
use Rattle.fm_base.specs.Truth.{truth, value}
use Rattle.fm_base.proofs.Constructors.{truth_of_equal, truth_of_truth, value_of_app}
use Rattle.fm_base.specs.declared.ids.SymId.{SymId}
use Rattle.fm_base.specs.declared.formula.Formula.{Formula}
use Rattle.fm_base.specs.declared.signature.Rank.{Rank}
use Rattle.fm_base.specs.declared.signature.Sig.{Sig}
use Rattle.fm_base.specs.declared.signature.Ty.{Ty}
use Rattle.fm_thin.specs.Certified.{zero_table, one_element_model}
use Rattle.fm_thin.specs.Thin.{falsity_behind, falsity_in, is_thin, kind_of, truth_kind}
use Rattle.fm_thin.specs.declared.thin.Kind.{Kind}
use Rattle.fm_thin.proofs.Shapes.{Shape, constant, kind_of_truth, shape}

pub size_one : (n s : ℕ) → s < n → slice_index (replicate n 1) s ≡ 1
size_one n s lt = get_or-replicate n s 1 0 lt

pub all_inhabited : (n : ℕ) → list_all (λ k. nat_le 1 k) (replicate n 1) ≡ true
all_inhabited zero = refl
all_inhabited (suc n) = all_inhabited n

pub sum_of_ones : (n k : ℕ) → k ≤ n → sum_below k (λ s. slice_index (replicate n 1) s) ≡ k
unfolding sum_below
sum_of_ones n zero le = refl
sum_of_ones n (suc k) le = omega (arith, sum_of_ones n k (omega arith), size_one n k (omega arith))

pub zero_everywhere : (n f : ℕ) (xs : List ℕ) → entry_at (slice_get (replicate n zero_table) f) xs ≡ 0
zero_everywhere zero f xs = refl
zero_everywhere (suc n) zero xs = refl
zero_everywhere (suc n) (suc f) xs = zero_everywhere n f xs

has_values : (m : Reading) (sorts : ℕ) → ((s : ℕ) → s < sorts → m.size s ≡ 1) → (t : Ty) → is_sort_of sorts t ≡ true → nat_lt 0 (values_of m t) ≡ true
has_values m sorts one Ty.Bool e = refl
has_values m sorts one (Ty.Of s) e = let size = one s.0 (ltb-true s.0 sorts e) in lt-ltb 0 (m.size s.0) (omega (arith, size))

may_be_empty : (ts : List Ty) → (not (is_nil ts) || true) ≡ true
may_be_empty [] = refl
may_be_empty (t ∷ ts) = refl

abbrev names : ℕ → Rank → Bool
names sorts r = list_all (is_sort_of sorts) r.args && is_sort_of sorts r.result

pub tables_good : (m : Reading) (sorts : ℕ) → ((s : ℕ) → s < sorts → m.size s ≡ 1) → (rs : List Rank) → list_all (names sorts) rs ≡ true → are_tables m rs (replicate (length rs) zero_table) ≡ true
tables_good m sorts one [] e = refl
tables_good m sorts one (r ∷ rs) e =
    let p = and_parts (names sorts r) (list_all (names sorts) rs) e in
    let result = (and_parts (list_all (is_sort_of sorts) r.args) (is_sort_of sorts r.result) p.0).1 in
    and_from (is_table m r zero_table) (are_tables m rs (replicate (length rs) zero_table)) (and_from (nat_lt 0 (values_of m r.result)) _ (has_values m sorts one r.result result) (may_be_empty r.args)) (tables_good m sorts one rs p.1)

pub model_fits : (sig : Sig) → names_its_sorts sig ≡ true → is_fit sig (one_element_model sig.sorts (length sig.ranks)) ≡ true
model_fits sig e =
    let m = reading_of (one_element_model sig.sorts (length sig.ranks)) in
    and_from _ _ e (and_from _ _ (eq-eqb (length (replicate sig.sorts 1)) sig.sorts (length-replicate sig.sorts 1)) (and_from _ _ (all_inhabited sig.sorts) (tables_good m sig.sorts (size_one sig.sorts) sig.ranks e)))

module _ (m : Reading) (zeros : (f : ℕ) (xs : List ℕ) → m.at f xs ≡ 0) where
  constant_zero : (a : SymId) → value (constant a) m [] ≡ 0
  constant_zero a = value_of_app a [] m [] ∙ zeros a.0 []

  always : (b : Bool) → truth_kind b ≢ Kind.Never → b ≡ true
  always true ne = refl
  always false ne = absurd (ne refl)

  shape_true : (sig : Sig) (f : Formula) → Shape sig f → kind_of f sig ≢ Kind.Never → truth f m [] ≡ true
  shape_true sig f (inl t) ne =
      let kind : kind_of f sig ≡ truth_kind t.0 = ap (λ (g : Formula). kind_of g sig) t.1 ∙ kind_of_truth sig t.0 in
      subst (λ (g : Formula). truth g m [] ≡ true) (sym t.1) (truth_of_truth t.0 m [] ∙ always t.0 (λ e. ne (kind ∙ e)))
  shape_true sig f (inr e) ne =
      let left = constant_zero e.left in
      let right = constant_zero e.right in
      subst (λ (g : Formula). truth g m [] ≡ true) (sym e.is) (truth_of_equal (constant e.left) (constant e.right) m [] ∙ eq-eqb (value (constant e.left) m []) (value (constant e.right) m []) (left ∙ sym right))

  none_before : (n : ℕ) (o : Option ℕ) → option_map (λ i. n + i) o ≡ None → o ≡ None
  none_before n None e = refl
  none_before n (Some i) e = cc e

  none_behind : (k : Kind) (o : Option ℕ) → falsity_behind k o ≡ None → (k ≢ Kind.Never) × (o ≡ None)
  none_behind Kind.Always o e = (λ h. cc h, none_before 0 o e)
  none_behind Kind.Never o e = cc e
  none_behind Kind.Equation o e = (λ h. cc h, none_before 1 o e)
  none_behind Kind.Other o e = (λ h. cc h, none_before 0 o e)

  pub assertions_true : (sig : Sig) (fs : List Formula) → list_all (is_thin sig) fs ≡ true → falsity_in sig fs ≡ None → All (λ f. truth f m [] ≡ true) fs
  assertions_true sig [] thin none = All-nil (λ f. truth f m [] ≡ true)
  assertions_true sig (f ∷ fs) thin none =
      let p = and_parts (is_thin sig f) (list_all (is_thin sig) fs) thin in
      let q = none_behind (kind_of f sig) (falsity_in sig fs) none in
      All-cons (λ f. truth f m [] ≡ true) f fs (shape_true sig f (shape sig f p.0) q.0) (assertions_true sig fs p.1 q.1)
