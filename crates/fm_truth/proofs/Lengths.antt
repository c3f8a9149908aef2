-- Tests of tables, from a place of the list on.
use Rattle.std.proofs.Common.{◌≡◌, ℕ, suc, true, false, List, [], ◌∷◌, length, ap, refl}
use Rattle.std.specs.Prelude.{nat_lt}
use Rattle.std.proofs.lemmas.Bool.{and_parts, false_from_ne_true}
use Rattle.fm_base.specs.Interpretations.{Reading, is_tuple, values_of, are_tables, is_table}
use Rattle.fm_base.specs.declared.signature.Ty.{Ty}
use Rattle.fm_base.specs.declared.signature.Rank.{Rank}
use Rattle.fm_base.specs.declared.interp.Table.{Table}

is_tuple-long : (m : Reading) (ts : List Ty) (xs : List ℕ) → is_tuple m ts xs ≡ true → length ts ≡ length xs
is_tuple-long m [] [] e = refl
is_tuple-long m [] (x ∷ xs) e = cc
is_tuple-long m (t ∷ ts) [] e = cc
is_tuple-long m (t ∷ ts) (x ∷ xs) e = ap (λ n. suc n) (is_tuple-long m ts xs (and_parts (nat_lt x (values_of m t)) (is_tuple m ts xs) e).1)

pub is_tuple-other_length : (m : Reading) (ts : List Ty) (xs : List ℕ) → (length ts ≡ length xs → ⊥) → is_tuple m ts xs ≡ false
is_tuple-other_length m ts xs ne = false_from_ne_true (is_tuple m ts xs) (λ e. ne (is_tuple-long m ts xs e))

are_tables-long : (m : Reading) (rs : List Rank) (ts : List Table) → are_tables m rs ts ≡ true → length rs ≡ length ts
are_tables-long m [] [] e = refl
are_tables-long m [] (x ∷ xs) e = cc
are_tables-long m (t ∷ ts) [] e = cc
are_tables-long m (t ∷ ts) (x ∷ xs) e = ap (λ n. suc n) (are_tables-long m ts xs (and_parts (is_table m t x) (are_tables m ts xs) e).1)

pub are_tables-other_length : (m : Reading) (rs : List Rank) (ts : List Table) → (length rs ≡ length ts → ⊥) → are_tables m rs ts ≡ false
are_tables-other_length m ts xs ne = false_from_ne_true (are_tables m ts xs) (λ e. ne (are_tables-long m ts xs e))
