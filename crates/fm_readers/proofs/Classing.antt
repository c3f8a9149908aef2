-- The classes of a sort, and its test, by the tests of a graph.
use Rattle.std.proofs.Common.{◌≡◌, ℕ, zero, suc, ◌+◌, ◌<◌, Bool, true, false, not, ◌&&◌, List, [], ◌∷◌, length, map, get_or, Option, Some, None, inl, inr, refl, sym, ap, subst, ◌∙◌, arith}
use Rattle.std.specs.Prelude.{◌==◌, nat_lt, slice_get}
use Rattle.std.specs.List.{Contains, filter, list_all, list_any, range_with_len}
use Rattle.std.specs.Str.{bytes_eq}
use Rattle.std.proofs.lemmas.Bool.{and_from, and_parts, cases_lt, eq-eqb, eqb-true, false_from_ne_true, false≢true, lt-ltb, ltb-true, or_cases, or_left, or_right}
use Rattle.std.proofs.lemmas.List.{length-map}
use Rattle.fm_base.specs.Resolution.{Has}
use Rattle.fm_base.specs.declared.ids.SortId.{SortId}
use Rattle.fm_base.specs.declared.ids.TermId.{TermId}
use Rattle.fm_base.specs.declared.signature.Ty.{Ty}
use Rattle.fm_bank.specs.Closure.{Shape, object, shape_at, shapes_of}
use Rattle.fm_bank.specs.Interning.{Held}
use Rattle.fm_bank.specs.Regions.{first_large, grown_regions, is_in, regions_at}
use Rattle.fm_bank.specs.Terms.{Term, is_type, numbers, type_of}
use Rattle.fm_bank.specs.Tests.{Tests}
use Rattle.fm_bank.proofs.Meanings.{typed_within}
use Rattle.fm_cells.specs.Ascending.{IsAscending}
use Rattle.fm_cong.specs.Held.{AreEqual, IsRegistered, typed_as}
use Rattle.fm_cong.specs.Held.{Held as Graph}
use Rattle.fm_cong.specs.Tests.{AreTestsOf}
use Rattle.fm_cong.specs.Types.{AreOldest, IsOldest}
use Rattle.fm_region.specs.Answers.{are_apart}
use Rattle.fm_region.specs.Parts.{IsPart, Up}
use Rattle.fm_region.specs.Picks.{IsPair as IsSortPair, IsPick, IsPickAt as IsSortPickAt}
use Rattle.fm_region.specs.declared.picking.Pick.{Pick as SortPick}
use Rattle.fm_region.proofs.Ascending.{ascending_up, contains_in, in_contains, range_up, same_up, up_at, up_filter, up_take}
use Rattle.fm_region.proofs.Choosing.{large_keeps}
use Rattle.fm_region.proofs.Ends.{regions_cover}
use Rattle.fm_region.proofs.Telling.{closed_parts, grown_parts, in_take, no_part, parts_alone}
use Rattle.fm_rounds.proofs.Members.{any_in, filter_in, flat_in, in_any, in_filter, in_flat, in_range, range_in}
use Rattle.fm_steps.specs.Content.{classes_of, is_oldest, is_term_of_sort}
use Rattle.fm_steps.specs.Picks.{IsPair, IsPickAt, IsTest, is_clique, is_sublist}
use Rattle.fm_steps.proofs.Due.{all_in, in_all}
use Rattle.fm_steps.proofs.Lists.{Has-contains, only_one}
use Rattle.fm_trail.specs.declared.entry.Entry.{Entry}
use Rattle.fm_readers.specs.Agreeing.{ClassesAgree, PicksAgree, pair_in, pick_in}
use Rattle.fm_readers.specs.Graphs.{IsGraphOf}
use Rattle.fm_readers.proofs.Graphs.{registered_below}
use Rattle.fm_readers.proofs.Reasons.{contains_has}

in_has : (xs : List ℕ) (c : ℕ) → is_in xs c ≡ true → Has xs c
in_has [] c e = absurd (false≢true e)
in_has (x ∷ xs) c e = elim (or_cases (c == x) (is_in xs c) e) [
  | inl q ↦ inl (sym (eqb-true c x q))
  | inr q ↦ inr (in_has xs c q)
]

has_in : (xs : List ℕ) (c : ℕ) → Has xs c → is_in xs c ≡ true
has_in [] c h = absurd h
has_in (x ∷ xs) c (inl e) = or_left (c == x) (is_in xs c) (eq-eqb c x (sym e))
has_in (x ∷ xs) c (inr h) = or_right (c == x) (is_in xs c) (has_in xs c h)

-- registered terms are the first ones
number_of : (n : ℕ) (o : Option Term) (s : Shape) → Has (shape_at n o) s → s.number ≡ n
number_of n None s h = absurd h
number_of n (Some t) s h = (let e = only_one (record { number = n; symbol = t.symbol; args = t.args }) s h in ap (λ (x : Shape). x.number) (sym e))

below_registered : (terms : List Term) (n k : ℕ) → IsRegistered (shapes_of terms (range_with_len 0 n)) k → k < n
below_registered terms n k h =
    let w = any_in (λ (s : Shape). k == s.number) (shapes_of terms (range_with_len 0 n)) h in
    let f = in_flat (λ m. shape_at m (slice_get terms m)) w.0 (range_with_len 0 n) w.1 in
    let number = number_of f.0 (slice_get terms f.0) w.0 f.2 in
    let is = eqb-true k w.0.number w.2 in
    let low = (in_range f.0 0 n f.1).1 in
    omega (arith, number, is, low)

-- the types noted are those of the terms
typed_is : (n : ℕ) (o : Option Ty) (t : TermId) (ty : Ty) → Has (typed_as n o) (t, ty) → (t.0 ≡ n) × (o ≡ Some ty)
typed_is n None t ty h = absurd h
typed_is n (Some u) t ty h =
    let e : ◌≡◌ {A = TermId × Ty} (record { 0 = n }, u) (t, ty) = only_one (record { 0 = n }, u) (t, ty) h in
    (ap (λ (p : TermId × Ty). p.0.0) (sym e), ap (λ (p : TermId × Ty). Some p.1) e)

sort_is : (o : Option Ty) (sort : SortId) → o ≡ Some (Ty.Of sort) → is_type o (Ty.Of sort) ≡ true
sort_is o sort e = subst (λ (p : Option Ty). is_type p (Ty.Of sort) ≡ true) (sym e) (eq-eqb sort.0 sort.0 refl)

is_sort : (o : Option Ty) (sort : SortId) → is_type o (Ty.Of sort) ≡ true → o ≡ Some (Ty.Of sort)
is_sort None sort e = absurd (false≢true e)
is_sort (Some Ty.Bool) sort e = absurd (false≢true e)
is_sort (Some (Ty.Of s)) sort e = (let same = eqb-true s.0 sort.0 e in λ i. Some (Ty.Of (record { 0 = same i })))

-- numbers as terms
abbrev ids : List ℕ → List TermId
ids [] = []
ids (n ∷ ns) = record { 0 = n } ∷ ids ns

ids_numbers : (ns : List ℕ) → numbers (ids ns) ≡ ns
ids_numbers [] = refl
ids_numbers (n ∷ ns) = ap (λ ms. n ∷ ms) (ids_numbers ns)

ids_length : (ns : List ℕ) → length (ids ns) ≡ length ns
ids_length [] = refl
ids_length (n ∷ ns) = ap suc (ids_length ns)

id_at : (ns : List ℕ) (i : ℕ) (d : TermId) → i < length ns → (get_or (ids ns) i d).0 ≡ get_or ns i 0
id_at [] i d lt = absurd (omega (arith, lt))
id_at (n ∷ ns) zero d lt = refl
id_at (n ∷ ns) (suc i) d lt = id_at ns i d (omega (arith, lt))

ids_ascend : (ns : List ℕ) → Up ns → IsAscending (ids ns)
ids_ascend ns up i j d less lt =
    let low : j < length ns = (let e = ids_length ns in omega (arith, lt, e)) in
    let one = id_at ns i d (omega (arith, less, low)) in
    let two = id_at ns j d low in
    let between = up_at ns up i j less low in
    omega (arith, one, two, between)

module _ (held : Held) (es : List Entry) (g : Graph) (t : Tests) (h : IsGraphOf held es g) (tests : AreTestsOf g t) (sort : SortId) where
  abbrev all : ℕ
  all = length held.terms

  registered_is : (n : ℕ) → IsRegistered g.shapes n → n < all
  registered_is n r = below_registered held.terms all n (subst (λ (ss : List Shape). IsRegistered ss n) h.terms.shapes r)

  is_registered_term : (n : ℕ) → n < all → IsRegistered g.shapes n
  is_registered_term n lt = subst (λ (ss : List Shape). IsRegistered ss n) (sym h.terms.shapes) (registered_below held.terms all n lt (omega arith))

  type_there : (n : TermId) → Contains g.types (n, Ty.Of sort) → is_term_of_sort held sort.0 n.0 ≡ true
  type_there n c =
      let has = subst (λ (ts : List (TermId × Ty)). Has ts (n, Ty.Of sort)) h.terms.types (contains_has g.types (n, Ty.Of sort) c) in
      let w = in_flat (λ m. typed_as m (type_of held.sig held.terms m)) (n, Ty.Of sort) (range_with_len 0 all) has in
      let p = typed_is w.0 (type_of held.sig held.terms w.0) n (Ty.Of sort) w.2 in
      sort_is (type_of held.sig held.terms n.0) sort (ap (type_of held.sig held.terms) p.0 ∙ p.1)

  there_type : (n : ℕ) → is_term_of_sort held sort.0 n ≡ true → Contains g.types (record { 0 = n }, Ty.Of sort)
  there_type n e =
      let is = is_sort (type_of held.sig held.terms n) sort e in
      let lt = typed_within held.sig held.terms n (Ty.Of sort) e in
      let x : TermId × Ty = (record { 0 = n }, Ty.Of sort) in
      let has = flat_in (λ m. typed_as m (type_of held.sig held.terms m)) x (range_with_len 0 all) n (range_in n 0 all (omega arith) (omega (arith, lt))) (subst (λ (o : Option Ty). Has (typed_as n o) x) (sym is) (inl refl)) in
      Has-contains g.types x (subst (λ (ts : List (TermId × Ty)). Has ts x) (sym h.terms.types) has)

  equal_sym : (x y : ℕ) → AreEqual g x y → AreEqual g y x
  equal_sym x y e R c = c.symmetric x y (e R c)

  oldest_to : (n : ℕ) → IsOldest g sort (record { 0 = n }) → Has (classes_of held t sort) n
  oldest_to n o =
      let lt = registered_is n o.registered in
      filter_in (λ m. is_term_of_sort held sort.0 m && is_oldest t m) n (range_with_len 0 all) (range_in n 0 all (omega arith) (omega (arith, lt)))
      (and_from (is_term_of_sort held sort.0 n) (is_oldest t n) (type_there (record { 0 = n }) o.typed)
      (in_all (λ m. not (t.same (object m) (object n))) (range_with_len 0 n) (λ m q.
      let less = (in_range m 0 n q).1 in
      ap not (false_from_ne_true (t.same (object m) (object n)) (λ e.
      let le = o.first m (is_registered_term m (omega (arith, less, lt))) (equal_sym (object m) (object n) ((tests.same_is (object m) (object n)).0 e)) in
      omega (arith, le, less))))))

  to_oldest : (n : ℕ) → Has (classes_of held t sort) n → IsOldest g sort (record { 0 = n })
  to_oldest n q =
      let f = in_filter (λ m. is_term_of_sort held sort.0 m && is_oldest t m) n (range_with_len 0 all) q in
      let p = and_parts (is_term_of_sort held sort.0 n) (is_oldest t n) f.1 in
      let lt = (in_range n 0 all f.0).1 in
      record {
        registered = is_registered_term n (omega (arith, lt));
        typed = there_type n p.0;
        first = λ m r e. elim (cases_lt m n) [
          | inl less ↦
              let no_ = all_in (λ k. not (t.same (object k) (object n))) (range_with_len 0 n) m p.1 (range_in m 0 n (omega arith) (omega (arith, less))) in
              absurd (false≢true (sym (ap not ((tests.same_is (object m) (object n)).1 (equal_sym (object n) (object m) e))) ∙ no_))
          | inr le ↦ omega (arith, le)
        ];
      }

  pub classes_are : (list : List TermId) → AreOldest g sort list → numbers list ≡ classes_of held t sort
  classes_are list o =
      same_up (numbers list) (classes_of held t sort) (ascending_up list o.ascending) (up_filter (λ m. is_term_of_sort held sort.0 m && is_oldest t m) (range_with_len 0 all) (range_up 0 all))
      (λ c q. has_in (classes_of held t sort) c (oldest_to c ((o.oldest (record { 0 = c })).0 (in_contains list c q))))
      (λ c q. contains_in list (record { 0 = c }) ((o.oldest (record { 0 = c })).1 (to_oldest c (in_has (classes_of held t sort) c q))))

  -- and there is such a list
  pub oldest_are : AreOldest g sort (ids (classes_of held t sort))
  oldest_are =
      let cs = classes_of held t sort in
      let up : Up cs = up_filter (λ m. is_term_of_sort held sort.0 m && is_oldest t m) (range_with_len 0 all) (range_up 0 all) in
      record {
        ascending = ids_ascend cs up;
        oldest = λ n. (
          λ c. to_oldest n.0 (in_has cs n.0 (subst (λ (xs : List ℕ). is_in xs n.0 ≡ true) (ids_numbers cs) (contains_in (ids cs) n c))),
          λ o. in_contains (ids cs) n.0 (subst (λ (xs : List ℕ). is_in xs n.0 ≡ true) (sym (ids_numbers cs)) (has_in cs n.0 (oldest_to n.0 o))),
        );
      }

pub classes_agree : ClassesAgree
classes_agree held es g t sort list h tests oldest = classes_are held es g t h tests sort list oldest

-- Some of an ascending list, in order.
bytes-refl : (xs : List ℕ) → bytes_eq xs xs ≡ true
bytes-refl [] = refl
bytes-refl (x ∷ xs) = and_from (x == x) (bytes_eq xs xs) (eq-eqb x x refl) (bytes-refl xs)

any_from : (xs : List ℕ) (y : ℕ) → list_any (λ x. x == y) xs ≡ true → Has xs y
any_from xs y e = (let w = any_in (λ x. x == y) xs e in subst (Has xs) (eqb-true w.0 y w.2) w.1)

from_any : (xs : List ℕ) (y : ℕ) → Has xs y → list_any (λ x. x == y) xs ≡ true
from_any xs y h = in_any (λ x. x == y) xs y h (eq-eqb y y refl)

pub sublist : (xs ys : List ℕ) → Up xs → Up ys → ((c : ℕ) → Has xs c → Has ys c) → is_sublist xs ys ≡ true
sublist xs ys ux uy part =
    let p : ℕ → Bool = λ y. list_any (λ x. x == y) xs in
    let same : filter p ys ≡ xs =
    same_up (filter p ys) xs (up_filter p ys uy) ux
    (λ c q. has_in xs c (any_from xs c (in_filter p c ys (in_has (filter p ys) c q)).1))
    (λ c q. has_in (filter p ys) c (filter_in p c ys (part c (in_has xs c q)) (from_any xs c (in_has xs c q)))) in
    subst (λ (zs : List ℕ). bytes_eq zs xs ≡ true) (sym same) (bytes-refl xs)

clique_is : (apart : ℕ → ℕ → Bool) (xs : List ℕ) → are_apart apart xs ≡ is_clique apart xs
clique_is apart [] = refl
clique_is apart (x ∷ xs) = ap (λ b. list_all (λ y. apart x y) xs && b) (clique_is apart xs)

module _ (apart : ℕ → ℕ → Bool) (classes : List ℕ) (up : Up classes) (k : ℕ) where
  abbrev large : List ℕ
  large = first_large k (grown_regions apart classes k)

  large_up : Up large
  large_up =
      let start = map (λ c. c ∷ []) classes in
      let closed = closed_parts classes up apart k (length start) start (parts_alone classes) in
      let grown = grown_parts classes up apart k (length (regions_at apart classes k)) (regions_at apart classes k) (regions_cover apart classes k) closed in
      (large_keeps (IsPart classes) k (grown_regions apart classes k) (no_part classes) grown).up

  pub pair_is : (t : Tests) → t.apart ≡ apart → (terms : List ℕ) (pair : Option (TermId × TermId)) → Up terms → IsSortPair apart terms pair → IsPair t terms (pair_in pair)
  pair_is t e terms None ut h = subst (λ (a : ℕ → ℕ → Bool). is_clique a terms ≡ true) (sym e) (sym (clique_is apart terms) ∙ h)
  pair_is t e terms (Some p) ut h = (
    sublist (p.0.0 ∷ (p.1.0 ∷ [])) terms ((h.older, tt), (tt, tt)) ut (λ c q. elim q [
      | inl s ↦ subst (Has terms) s (in_has terms p.0.0 h.first)
      | inr r ↦ elim r [ inl s ↦ subst (Has terms) s (in_has terms p.1.0 h.second) | inr f ↦ absurd f ]
    ]),
    subst (λ (a : ℕ → ℕ → Bool). a p.0.0 p.1.0 ≡ false) (sym e) h.open_,
  )

  pub test_is : (t : Tests) → t.apart ≡ apart → (pick : SortPick) → IsPick apart classes k pick → IsTest t classes k (record { terms = numbers pick.terms.items; pair = pair_in pick.pair })
  test_is t e pick h =
      let terms = numbers pick.terms.items in
      let ut : Up terms = subst Up (sym h.terms) (up_take (k + 1) large large_up) in
      record {
        count = length-map pick.terms.items (λ (x : TermId). x.0) ∙ h.count;
        among = subst (λ (a : ℕ → ℕ → Bool). is_sublist terms (first_large k (grown_regions a classes k)) ≡ true) (sym e)
            (sublist terms large ut large_up (λ c q. in_has large c (in_take (k + 1) large c (subst (λ (xs : List ℕ). is_in xs c ≡ true) h.terms (has_in terms c q)))));
        pair = pair_is t e terms pick.pair ut h.pair;
      }

  pub pick_is : (t : Tests) → t.apart ≡ apart → (pick : Option SortPick) → IsSortPickAt apart classes k pick → IsPickAt t classes (Some k) (pick_in pick)
  pick_is t e None h = false_from_ne_true (nat_lt k (length classes)) (λ q. let lt = ltb-true k (length classes) q in omega (arith, lt, h))
  pick_is t e (Some p) h = (lt-ltb k (length classes) h.more, test_is t e p h)

pub picks_agree : PicksAgree
picks_agree held es g t sort k pick h tests of =
    let cs = classes_of held t sort in
    let up : Up cs = up_filter (λ m. is_term_of_sort held sort.0 m && is_oldest t m) (range_with_len 0 (length held.terms)) (range_up 0 (length held.terms)) in
    pick_is t.apart cs up k t refl pick (subst (λ (xs : List ℕ). IsSortPickAt t.apart xs k pick) (ids_numbers cs) (of t (ids cs) tests (oldest_are held es g t h tests sort)))
