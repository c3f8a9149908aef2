-- Endings: sizes that add up, assertions that fail, and the lines of a model.
use Rattle.std.proofs.Common.{◌≡◌, ℕ, zero, suc, ◌+◌, true, false, List, [], ◌∷◌, length, Some, refl, sym, ap, subst, ◌∙◌, arith}
use Rattle.std.specs.Prelude.{slice_get, slice_index}
use Rattle.std.specs.List.{All, flat_map}
use Rattle.std.proofs.lemmas.Bool.{and_parts, both_ways, eqb-true}
use Rattle.std.proofs.lemmas.List.{length-append, length-map}
use Rattle.std.proofs.lemmas.List.Elements.{All-get_or}
use Rattle.std.proofs.lemmas.Option.{get_or_from_slice_get, slice_get_within}
use Rattle.fm_base.specs.Interpretations.{Reading, is_fit, reading_of}
use Rattle.fm_base.specs.Models.{sum_below, sum_of_sizes}
use Rattle.fm_base.specs.Truth.{truth}
use Rattle.fm_base.specs.declared.formula.Formula.{Formula}
use Rattle.fm_base.specs.declared.interp.Interp.{Interp}
use Rattle.fm_base.specs.declared.interp.Table.{Table}
use Rattle.fm_base.specs.declared.signature.Sig.{Sig}
use Rattle.fm_cert.specs.Rows.{exception_row, rows_of_claim, rows_of_table}
use Rattle.fm_cert.specs.declared.block.Claim.{Claim}
use Rattle.fm_blocks.specs.Endings.{sum_of}
use Rattle.fm_blocks.specs.ModelLines.{lines_of_tables}

-- sizes that add up
shift_sum : (n : ℕ) (f : ℕ → ℕ) → sum_below (suc n) f ≡ f 0 + sum_below n (λ s. f (suc s))
unfolding sum_below
shift_sum zero f = omega arith
shift_sum (suc n) f = let rest = shift_sum n f in omega (arith, rest)

sum_sizes : (ks : List ℕ) → sum_below (length ks) (λ s. slice_index ks s) ≡ sum_of ks
unfolding sum_below
sum_sizes [] = refl
sum_sizes (k ∷ ks) = shift_sum (length ks) (λ s. slice_index (k ∷ ks) s) ∙ ap (λ (x : ℕ). k + x) (sum_sizes ks)

fit_sizes : (sig : Sig) (i : Interp) → is_fit sig i ≡ true → length i.sizes ≡ sig.sorts
fit_sizes sig i e =
    let p = and_parts _ _ e in
    let q = and_parts _ _ p.1 in
    eqb-true (length i.sizes) sig.sorts q.0

pub model_sum : (sig : Sig) (i : Interp) → is_fit sig i ≡ true → sum_of_sizes sig (reading_of i) ≡ sum_of i.sizes
model_sum sig i e = ap (λ (n : ℕ). sum_below n (λ s. slice_index i.sizes s)) (sym (fit_sizes sig i e)) ∙ sum_sizes i.sizes

-- an assertion that fails is one that isn't true
pub fails_some : (m : Reading) (fs : List Formula) (i : ℕ) (f : Formula) → slice_get fs i ≡ Some f → truth f m [] ≡ false → All (λ (g : Formula). truth g m [] ≡ true) fs → ⊥
fails_some m fs i f at fails all = both_ways (truth f m []) fails (at_place fs i f at all)
  where
    at_place : (fs : List Formula) (i : ℕ) (f : Formula) → slice_get fs i ≡ Some f → All (λ (g : Formula). truth g m [] ≡ true) fs → truth f m [] ≡ true
    at_place fs i f at all = subst (λ (g : Formula). truth g m [] ≡ true) (get_or_from_slice_get fs i f f at) (All-get_or (λ (g : Formula). truth g m [] ≡ true) fs i f (slice_get_within fs i f at) all)

-- a model has its lines `q` and `z`, and those of its tables
tables_long : (ts : List Table) → length (flat_map rows_of_table ts) ≡ lines_of_tables ts
tables_long [] = refl
tables_long (t ∷ ts) =
    let a = length-append (rows_of_table t) (flat_map rows_of_table ts) in
    let b = length-map t.except exception_row in
    let rest = tables_long ts in
    omega (arith, a, b, rest)

pub sat_long : (sum : ℕ) (model : Interp) → length (rows_of_claim (Claim.Sat sum model)) ≡ 2 + lines_of_tables model.tables
sat_long sum model = let rest = tables_long model.tables in omega (arith, rest)
