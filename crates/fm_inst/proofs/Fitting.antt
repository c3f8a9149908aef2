-- What tables that fit a signature give a search.
use Rattle.std.proofs.Common.{◌≡◌, ℕ, zero, suc, ◌<◌, Bool, true, List, [], ◌∷◌, length, get_or, refl, arith}
use Rattle.std.specs.Prelude.{nat_le, nat_lt, not, ◌==◌, ◌||◌}
use Rattle.std.specs.List.{list_all}
use Rattle.std.proofs.lemmas.Bool.{and_parts, and_from}
use Rattle.fm_base.specs.Interpretations.{Reading, reading_of, are_tables, is_table, is_exception, is_fit, ascends, names_its_sorts, values_of, is_nil}
use Rattle.fm_base.specs.declared.signature.Rank.{Rank}
use Rattle.fm_base.specs.declared.signature.Sig.{Sig}
use Rattle.fm_base.specs.declared.interp.Table.{Table}
use Rattle.fm_base.specs.declared.interp.Interp.{Interp}
use Rattle.fm_inst.specs.Lookup.{tables_ascend}

table_ascends : (m : Reading) (r : Rank) (t : Table) → is_table m r t ≡ true → ascends t.except ≡ true
table_ascends m r t e =
    let a = and_parts (nat_lt t.default (values_of m r.result)) _ e in
    let b = and_parts (list_all (is_exception m r t.default) t.except) _ a.1 in
    (and_parts (ascends t.except) (not (is_nil r.args) || is_nil t.except) b.1).0

all_ascend : (m : Reading) (rs : List Rank) (ts : List Table) → are_tables m rs ts ≡ true → list_all (λ (t : Table). ascends t.except) ts ≡ true
all_ascend m [] [] e = refl
all_ascend m [] (t ∷ ts) e = cc
all_ascend m (r ∷ rs) [] e = cc
all_ascend m (r ∷ rs) (t ∷ ts) e =
    let parts = and_parts (is_table m r t) (are_tables m rs ts) e in
    and_from (ascends t.except) (list_all (λ (u : Table). ascends u.except) ts) (table_ascends m r t parts.0) (all_ascend m rs ts parts.1)

pub fit_tables_ascend : (sig : Sig) (i : Interp) → is_fit sig i ≡ true → tables_ascend i ≡ true
fit_tables_ascend sig i e =
    let a = and_parts (names_its_sorts sig) _ e in
    let b = and_parts (length i.sizes == sig.sorts) _ a.1 in
    let c = and_parts (list_all (λ k. nat_le 1 k) i.sizes) (are_tables (reading_of i) sig.ranks i.tables) b.1 in
    all_ascend (reading_of i) sig.ranks i.tables c.1

pub list_all-item : {X : Type 0} (p : X → Bool) (xs : List X) (k : ℕ) (d : X) → list_all p xs ≡ true → k < length xs → p (get_or xs k d) ≡ true
list_all-item p [] k d e lt = absurd (omega arith)
list_all-item p (x ∷ xs) zero d e lt = (and_parts (p x) (list_all p xs) e).0
list_all-item p (x ∷ xs) (suc k) d e lt = list_all-item p xs k d (and_parts (p x) (list_all p xs) e).1 (omega arith)
