-- Tables that fit a signature read as an interpretation of it.
use Rattle.std.proofs.Common.{◌≡◌, ℕ, zero, suc, ◌+◌, ◌<◌, ◌≤◌, ◌==◌, Bool, true, false, ◌&&◌, not, cond, List, [], ◌∷◌, length, get_or, Option, Some, None, ap, refl, sym, subst, ◌∙◌, arith, inl, inr}
use Rattle.std.specs.Prelude.{nat_lt, nat_le, slice_get, slice_index}
use Rattle.std.specs.List.{list_all}
use Rattle.std.specs.Str.{bytes_eq}
use Rattle.std.proofs.lemmas.Bool.{and_parts, ltb-true, leb-true, eqb-true, cond_both}
use Rattle.fm_base.specs.Interpretations.{Reading, IsInterpretation, is_tuple, values_of, are_tables, is_table, is_exception, entry_in, entry_at, reading_of, is_fit, names_its_sorts, ascends, is_nil}
use Rattle.fm_base.specs.declared.signature.Ty.{Ty}
use Rattle.fm_base.specs.declared.signature.Rank.{Rank}
use Rattle.fm_base.specs.declared.signature.Sig.{Sig}
use Rattle.fm_base.specs.declared.interp.Table.{Table}
use Rattle.fm_base.specs.declared.interp.Interp.{Interp}

pub list_all-index : (ks : List ℕ) (s : ℕ) → list_all (λ k. nat_le 1 k) ks ≡ true → s < length ks → 1 ≤ slice_index ks s
list_all-index [] s e lt = absurd (omega arith)
list_all-index (k ∷ ks) zero e lt = leb-true 1 k (and_parts (nat_le 1 k) (list_all (λ n. nat_le 1 n) ks) e).0
list_all-index (k ∷ ks) (suc s) e lt = list_all-index ks s (and_parts (nat_le 1 k) (list_all (λ n. nat_le 1 n) ks) e).1 (omega arith)

pub table_of_rank : (m : Reading) (rs : List Rank) (ts : List Table) (f : ℕ) (r : Rank) → are_tables m rs ts ≡ true → slice_get rs f ≡ Some r → (t : Table) × (slice_get ts f ≡ Some t) × (is_table m r t ≡ true)
table_of_rank m [] ts f r e g = cc
table_of_rank m (x ∷ rs) [] f r e g = cc
table_of_rank m (x ∷ rs) (t ∷ ts) zero r e g =
    let same : x ≡ r = cc g in
    (t, refl, subst (λ (q : Rank). is_table m q t ≡ true) same (and_parts (is_table m x t) (are_tables m rs ts) e).0)
table_of_rank m (x ∷ rs) (t ∷ ts) (suc f) r e g = table_of_rank m rs ts f r (and_parts (is_table m x t) (are_tables m rs ts) e).1 g

pub entry_in-within : (m : Reading) (r : Rank) (default d : ℕ) (es : List (List ℕ × ℕ)) (xs : List ℕ) → default < values_of m r.result → list_all (is_exception m r d) es ≡ true → entry_in default es xs < values_of m r.result
entry_in-within m r default d [] xs lt e = lt
entry_in-within m r default d (x ∷ es) xs lt e =
    let parts = and_parts (is_exception m r d x) (list_all (is_exception m r d) es) e in
    let value = and_parts (is_tuple m r.args x.0) (nat_lt x.1 (values_of m r.result) && not (x.1 == d)) parts.0 in
    let small = ltb-true x.1 (values_of m r.result) (and_parts (nat_lt x.1 (values_of m r.result)) (not (x.1 == d)) value.1).0 in
    cond_both (bytes_eq x.0 xs) x.1 (entry_in default es xs) (λ v. v < values_of m r.result) (λ _. small) (λ _. entry_in-within m r default d es xs lt parts.1)

pub table-within : (m : Reading) (r : Rank) (t : Table) (xs : List ℕ) → is_table m r t ≡ true → entry_in t.default t.except xs < values_of m r.result
table-within m r t xs e =
    let parts = and_parts (nat_lt t.default (values_of m r.result)) _ e in
    let rest = and_parts (list_all (is_exception m r t.default) t.except) _ parts.1 in
    entry_in-within m r t.default t.default t.except xs (ltb-true t.default (values_of m r.result) parts.0) rest.0

pub tables-interpret : (sig : Sig) (i : Interp) → is_fit sig i ≡ true → IsInterpretation sig (reading_of i)
tables-interpret sig i e =
    let a = and_parts (names_its_sorts sig) _ e in
    let b = and_parts (length i.sizes == sig.sorts) _ a.1 in
    let c = and_parts (list_all (λ k. nat_le 1 k) i.sizes) (are_tables (reading_of i) sig.ranks i.tables) b.1 in
    let long : length i.sizes ≡ sig.sorts = eqb-true (length i.sizes) sig.sorts b.0 in
    record {
      inhabited = λ s lt. list_all-index i.sizes s c.0 (omega arith);
      closed = λ f r xs g t.
          let found = table_of_rank (reading_of i) sig.ranks i.tables f r c.1 g in
          subst (λ (o : Option Table). entry_at o xs < values_of (reading_of i) r.result) (sym found.1) (table-within (reading_of i) r found.0 xs found.2);
    }
