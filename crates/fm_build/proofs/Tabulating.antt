-- Tables that are each a symbol's are the candidate's.
use Rattle.std.proofs.Common.{◌≡◌, ℕ, suc, ◌+◌, List, [], ◌∷◌, length, Some, refl, ap, ◌∙◌, arith}
use Rattle.std.specs.Prelude.{slice_get}
use Rattle.fm_base.specs.Interpretations.{Reading}
use Rattle.fm_base.specs.declared.interp.Table.{Table}
use Rattle.fm_base.specs.declared.signature.Rank.{Rank}
use Rattle.fm_rounds.specs.Tuples.{table_of, tables_from}

same_from : (m : Reading) (f : ℕ) (ranks : List Rank) (tables : List Table) → length tables ≡ length ranks
    → ((i : ℕ) (r : Rank) (t : Table) → slice_get ranks i ≡ Some r → slice_get tables i ≡ Some t → t ≡ table_of m (f + i) r.args) → tables ≡ tables_from m f ranks
same_from m f [] [] e h = refl
same_from m f [] (t ∷ ts) e h = absurd (omega (arith, e))
same_from m f (r ∷ rs) [] e h = absurd (omega (arith, e))
same_from m f (r ∷ rs) (t ∷ ts) e h =
    let zero_more : f + 0 ≡ f = omega arith in
    let one = h 0 r t refl refl ∙ ap (λ k. table_of m k r.args) zero_more in
    let rest = same_from m (f + 1) rs ts (omega (arith, e)) (λ i q u a b. let s : f + suc i ≡ f + 1 + i = omega arith in h (suc i) q u a b ∙ ap (λ k. table_of m k q.args) s) in
    λ i. one i ∷ rest i

pub all_same : (m : Reading) (ranks : List Rank) (tables : List Table) → length tables ≡ length ranks → ((f : ℕ) (r : Rank) (t : Table) → slice_get ranks f ≡ Some r → slice_get tables f ≡ Some t → t ≡ table_of m f r.args) → tables ≡ tables_from m 0 ranks
all_same m ranks tables e h = same_from m 0 ranks tables e (λ i r t a b. let s : i ≡ 0 + i = omega arith in h i r t a b ∙ ap (λ k. table_of m k r.args) s)
