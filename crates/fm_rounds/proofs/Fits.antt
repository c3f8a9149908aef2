-- An interpretation written as tables fits its signature, and reads as itself.
use Rattle.std.proofs.Common.{◌≡◌, ℕ, zero, suc, ◌+◌, ◌<◌, ◌≤◌, Bool, true, false, ◌&&◌, ◌||◌, not, cond, List, [], ◌∷◌, length, map, Option, Some, refl, sym, subst, ap, ◌∙◌, arith}
use Rattle.std.specs.Prelude.{◌==◌, nat_le, nat_lt, slice_get}
use Rattle.std.specs.List.{list_all, range_with_len}
use Rattle.std.proofs.lemmas.Bool.{and_parts, and_from, eq-eqb, lt-ltb, le-leb, ltb-true}
use Rattle.std.proofs.lemmas.List.FromFn.{get_or-map-range_with_len, length-map-range_with_len}
use Rattle.fm_base.specs.Interpretations.{IsInterpretation, Reading, are_tables, ascends, entry_at, entry_in, is_exception, is_fit, is_nil, is_sort_of, is_table, is_tuple, names_its_sorts, reading_of, values_of}
use Rattle.fm_base.specs.declared.signature.Rank.{Rank}
use Rattle.fm_base.specs.declared.signature.Sig.{Sig}
use Rattle.fm_base.specs.declared.signature.Ty.{Ty}
use Rattle.fm_base.specs.declared.interp.Table.{Table}
use Rattle.fm_rounds.specs.Tuples.{from_first, table_of, tabled, tables_from, tuples}
use Rattle.fm_rounds.specs.Soundness.{Agree, TablesAreWritten}
use Rattle.fm_rounds.proofs.Tabling.{all_append, entries, entries_ascend, table_reads, tuples_rise}

add_none : (k : ℕ) → k + 0 ≡ k
add_none k = omega arith

add_suc : (k i : ℕ) → k + suc i ≡ k + 1 + i
add_suc k i = omega arith

none_add : (k : ℕ) → k ≡ 0 + k
none_add k = omega arith

head_all : (m : Reading) (t : Ty) (ts : List Ty) (x : ℕ) (xss : List (List ℕ)) → nat_lt x (values_of m t) ≡ true → list_all (is_tuple m ts) xss ≡ true → list_all (is_tuple m (t ∷ ts)) (map (λ xs. x ∷ xs) xss) ≡ true
head_all m t ts x [] lt e = refl
head_all m t ts x (xs ∷ xss) lt e =
    let p = and_parts (is_tuple m ts xs) (list_all (is_tuple m ts) xss) e in
    and_from (is_tuple m (t ∷ ts) (x ∷ xs)) (list_all (is_tuple m (t ∷ ts)) (map (λ xs. x ∷ xs) xss)) (and_from (nat_lt x (values_of m t)) (is_tuple m ts xs) lt p.0) (head_all m t ts x xss lt p.1)

first_all : (m : Reading) (t : Ty) (ts : List Ty) (a k : ℕ) → a + k ≤ values_of m t → list_all (is_tuple m ts) (tuples (map (values_of m) ts)) ≡ true → list_all (is_tuple m (t ∷ ts)) (from_first (map (values_of m) ts) a k) ≡ true
first_all m t ts a zero le e = refl
first_all m t ts a (suc k) le e =
    let ns = map (values_of m) ts in
    all_append (is_tuple m (t ∷ ts)) (map (λ xs. a ∷ xs) (tuples ns)) (from_first ns (a + 1) k) (head_all m t ts a (tuples ns) (lt-ltb a (values_of m t) (omega (arith, le))) e) (first_all m t ts (a + 1) k (omega (arith, le)) e)

tuples_are : (m : Reading) (ts : List Ty) → list_all (is_tuple m ts) (tuples (map (values_of m) ts)) ≡ true
tuples_are m [] = refl
tuples_are m (t ∷ ts) = first_all m t ts 0 (values_of m t) (omega arith) (tuples_are m ts)

sizes_one : (size : ℕ → ℕ) (a k : ℕ) → ((s : ℕ) → a ≤ s → s < a + k → 1 ≤ size s) → list_all (λ n. nat_le 1 n) (map size (range_with_len a k)) ≡ true
sizes_one size a zero h = refl
sizes_one size a (suc k) h = and_from (nat_le 1 (size a)) (list_all (λ n. nat_le 1 n) (map size (range_with_len (a + 1) k))) (le-leb 1 (size a) (h a (omega arith) (omega arith))) (sizes_one size (a + 1) k (λ s le lt. h s (omega (arith, le)) (omega (arith, lt))))

kept_exception : (p : (List ℕ × ℕ) → Bool) (e : List ℕ × ℕ) (es : List (List ℕ × ℕ)) (b : Bool) → not (e.1 == 0) ≡ b → (b ≡ true → p e ≡ true) → list_all p es ≡ true → list_all p (cond b (e ∷ es) es) ≡ true
kept_exception p e es true s h g = and_from (p e) (list_all p es) (h refl) g
kept_exception p e es false s h g = g

all_exceptions : (m : Reading) (r : Rank) (f : List ℕ → ℕ) (xss : List (List ℕ)) → list_all (is_tuple m r.args) xss ≡ true → ((xs : List ℕ) → is_tuple m r.args xs ≡ true → f xs < values_of m r.result) → list_all (is_exception m r 0) (entries f xss) ≡ true
all_exceptions m r f [] e h = refl
all_exceptions m r f (xs ∷ xss) e h =
    let p = and_parts (is_tuple m r.args xs) (list_all (is_tuple m r.args) xss) e in
    kept_exception (is_exception m r 0) (xs, f xs) (entries f xss) (not (f xs == 0)) refl (λ other. and_from (is_tuple m r.args xs) (nat_lt (f xs) (values_of m r.result) && not (f xs == 0)) p.0 (and_from (nat_lt (f xs) (values_of m r.result)) (not (f xs == 0)) (lt-ltb (f xs) (values_of m r.result) (h xs p.0)) other)) (all_exceptions m r f xss p.1 h)

table_fits : (m : Reading) (f : ℕ) (ts : List Ty) (u : Ty) → 0 < values_of m u → ((xs : List ℕ) → is_tuple m ts xs ≡ true → m.at f xs < values_of m u) → is_table m (record { args = ts; result = u }) (table_of m f ts) ≡ true
table_fits m f [] u lowest h = and_from (nat_lt (m.at f []) (values_of m u)) true (lt-ltb (m.at f []) (values_of m u) (h [] refl)) refl
table_fits m f (t ∷ ts) u lowest h =
    let r : Rank = record { args = t ∷ ts; result = u } in
    let all = tuples (map (values_of m) (t ∷ ts)) in
    and_from (nat_lt 0 (values_of m u)) (list_all (is_exception m r 0) (entries (m.at f) all) && (ascends (entries (m.at f) all) && true)) (lt-ltb 0 (values_of m u) lowest)
    (and_from (list_all (is_exception m r 0) (entries (m.at f) all)) (ascends (entries (m.at f) all) && true) (all_exceptions m r (m.at f) all (tuples_are m (t ∷ ts)) h)
    (and_from (ascends (entries (m.at f) all)) true (entries_ascend (m.at f) all (tuples_rise (map (values_of m) (t ∷ ts)))) refl))

-- two readings with the same numbers of values
module _ (sorts : ℕ) (m w : Reading) (alike : (u : Ty) → is_sort_of sorts u ≡ true → values_of w u ≡ values_of m u) where
  tuple_alike : (ts : List Ty) (xs : List ℕ) → list_all (is_sort_of sorts) ts ≡ true → is_tuple w ts xs ≡ is_tuple m ts xs
  tuple_alike [] [] e = refl
  tuple_alike [] (x ∷ xs) e = refl
  tuple_alike (t ∷ ts) [] e = refl
  tuple_alike (t ∷ ts) (x ∷ xs) e =
      let p = and_parts (is_sort_of sorts t) (list_all (is_sort_of sorts) ts) e in
      let one = alike t p.0 in
      let rest = tuple_alike ts xs p.1 in
      λ i. nat_lt x (one i) && rest i

  exceptions_alike : (r : Rank) (d : ℕ) (es : List (List ℕ × ℕ)) → list_all (is_sort_of sorts) r.args ≡ true → is_sort_of sorts r.result ≡ true → list_all (is_exception w r d) es ≡ list_all (is_exception m r d) es
  exceptions_alike r d [] a e = refl
  exceptions_alike r d (x ∷ es) a e =
      let tuple = tuple_alike r.args x.0 a in
      let size = alike r.result e in
      let rest = exceptions_alike r d es a e in
      λ i. (tuple i && (nat_lt x.1 (size i) && not (x.1 == d))) && rest i

  table_alike : (r : Rank) (t : Table) → list_all (is_sort_of sorts) r.args ≡ true → is_sort_of sorts r.result ≡ true → is_table w r t ≡ is_table m r t
  table_alike r t a e =
      let size = alike r.result e in
      let es = exceptions_alike r t.default t.except a e in
      λ i. nat_lt t.default (size i) && (es i && (ascends t.except && (not (is_nil r.args) || is_nil t.except)))

  tables_fit : (k : ℕ) (rs : List Rank) → list_all (λ (r : Rank). list_all (is_sort_of sorts) r.args && is_sort_of sorts r.result) rs ≡ true → ((u : Ty) → is_sort_of sorts u ≡ true → 0 < values_of m u)
      → ((i : ℕ) (r : Rank) (xs : List ℕ) → slice_get rs i ≡ Some r → is_tuple m r.args xs ≡ true → m.at (k + i) xs < values_of m r.result) → are_tables w rs (tables_from m k rs) ≡ true
  tables_fit k [] e some h = refl
  tables_fit k (r ∷ rs) e some h =
      let p = and_parts (list_all (is_sort_of sorts) r.args && is_sort_of sorts r.result) (list_all (λ (r : Rank). list_all (is_sort_of sorts) r.args && is_sort_of sorts r.result) rs) e in
      let q = and_parts (list_all (is_sort_of sorts) r.args) (is_sort_of sorts r.result) p.0 in
      let here = table_alike r (table_of m k r.args) q.0 q.1 ∙ table_fits m k r.args r.result (some r.result q.1) (λ xs t. subst (λ n. m.at n xs < values_of m r.result) (add_none k) (h 0 r xs refl t)) in
      and_from (is_table w r (table_of m k r.args)) (are_tables w rs (tables_from m (k + 1) rs)) here
      (tables_fit (k + 1) rs p.1 some (λ i s xs g t. subst (λ n. m.at n xs < values_of m s.result) (add_suc k i) (h (suc i) s xs g t)))

module _ (sig : Sig) (m : Reading) (int : IsInterpretation sig m) (named : names_its_sorts sig ≡ true) where
  abbrev w : Reading
  w = reading_of (tabled sig m)

  pub size_reads : (s : ℕ) → s < sig.sorts → w.size s ≡ m.size s
  size_reads s lt = get_or-map-range_with_len m.size 0 sig.sorts s s 0 lt (omega arith)

  values_read : (u : Ty) → is_sort_of sig.sorts u ≡ true → values_of w u ≡ values_of m u
  values_read Ty.Bool e = refl
  values_read (Ty.Of s) e = size_reads s.0 (ltb-true s.0 sig.sorts e)

  some_value : (u : Ty) → is_sort_of sig.sorts u ≡ true → 0 < values_of m u
  some_value Ty.Bool e = omega arith
  some_value (Ty.Of s) e = omega (arith, int.inhabited s.0 (ltb-true s.0 sig.sorts e))

  pub tabled_fits : is_fit sig (tabled sig m) ≡ true
  tabled_fits =
      let i = tabled sig m in
      let long = eq-eqb (length i.sizes) sig.sorts (length-map-range_with_len m.size 0 sig.sorts) in
      let ones = sizes_one m.size 0 sig.sorts (λ s le lt. int.inhabited s (omega (arith, lt))) in
      let tables = tables_fit sig.sorts m w values_read 0 sig.ranks named some_value (λ f r xs g t. subst (λ n. m.at n xs < values_of m r.result) (none_add f) (int.closed f r xs g t)) in
      and_from (names_its_sorts sig) (length i.sizes == sig.sorts && (list_all (λ k. nat_le 1 k) i.sizes && are_tables w sig.ranks i.tables)) named (and_from (length i.sizes == sig.sorts) (list_all (λ k. nat_le 1 k) i.sizes && are_tables w sig.ranks i.tables) long (and_from (list_all (λ k. nat_le 1 k) i.sizes) (are_tables w sig.ranks i.tables) ones tables))

table_at : (m : Reading) (k f : ℕ) (rs : List Rank) (r : Rank) → slice_get rs f ≡ Some r → slice_get (tables_from m k rs) f ≡ Some (table_of m (k + f) r.args)
table_at m k f [] r e = cc
table_at m k zero (x ∷ rs) r e = let same : x ≡ r = cc e in ap (λ n. Some (table_of m n x.args)) (sym (add_none k)) ∙ ap (λ (y : Rank). Some (table_of m (k + 0) y.args)) same
table_at m k (suc f) (x ∷ rs) r e = table_at m (k + 1) f rs r e ∙ ap (λ n. Some (table_of m n r.args)) (sym (add_suc k f))

pub tabled_reads : (sig : Sig) (m : Reading) (f : ℕ) (r : Rank) (xs : List ℕ) → slice_get sig.ranks f ≡ Some r → is_tuple m r.args xs ≡ true → (reading_of (tabled sig m)).at f xs ≡ m.at f xs
tabled_reads sig m f r xs e t = ap (λ (o : Option Table). entry_at o xs) (table_at m 0 f sig.ranks r e) ∙ ap (λ n. entry_in (table_of m n r.args).default (table_of m n r.args).except xs) (sym (none_add f)) ∙ table_reads m f r.args xs t

pub tabled_agrees : (sig : Sig) (m : Reading) → Agree sig m (reading_of (tabled sig m))
tabled_agrees sig m f r e xs t = tabled_reads sig m f r xs e t

pub tables_are_written : TablesAreWritten
tables_are_written sig m int named = record { fits = tabled_fits sig m int named; sizes = size_reads sig m int named; agrees = tabled_agrees sig m }
