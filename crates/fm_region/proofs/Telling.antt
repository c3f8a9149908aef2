-- The regions of classes by place, told by the numbers of their terms, are those of the e-graph.
use Rattle.std.proofs.Common.{◌≡◌, ℕ, zero, suc, ◌+◌, ◌^◌, ◌<◌, Bool, true, false, ◌||◌, List, [], ◌∷◌, length, map, take, inl, inr, refl, sym, subst, ap, ◌∙◌, arith, get_or}
use Rattle.std.specs.Prelude.{◌==◌}
use Rattle.std.specs.List.{IsDistinct, list_all, range_with_len}
use Rattle.std.proofs.lemmas.Bool.{and_from, and_parts, cases_Bool, cases_lt, false≢true, or_cases, or_left, or_right}
use Rattle.std.proofs.lemmas.List.{length-map, length-take-le, take-map}
use Rattle.std.proofs.lemmas.List.FromFn.{length-range_with_len}
use Rattle.fm_base.specs.declared.ids.SortId.{SortId}
use Rattle.fm_base.specs.declared.ids.TermId.{TermId}
use Rattle.fm_bank.specs.Terms.{numbers}
use Rattle.fm_cells.specs.Ascending.{IsAscending}
use Rattle.fm_cong.specs.Held.{Held as Graph}
use Rattle.fm_cong.specs.Types.{AreOldest}
use Rattle.fm_region.specs.Answers.{IsFoundIn, IsSplit, IsStrong, IsStrongOf, are_apart, test_of}
use Rattle.fm_region.specs.Held.{AreGrownOf, AreTestsOf}
use Rattle.fm_region.specs.Parts.{IsPart, Up}
use Rattle.fm_bank.specs.Regions.{Cover, after_join, closed, closed_within, first_large, grown, grown_regions, grown_within, is_in, must_grow, region_at, regions_at}
use Rattle.fm_region.specs.Rows.{apart_in, number_at}
use Rattle.fm_bank.specs.Tests.{Tests}
use Rattle.fm_region.specs.declared.strong.Strong.{Strong}
use Rattle.fm_region.proofs.Ascending.{ascending_up, contains_in, in_contains, in_range, range_up, same_up, up_at, up_distinct, up_filter, up_take}
use Rattle.fm_region.proofs.Choosing.{all_apart, large_is, large_keeps, large_named, pair_is}
use Rattle.fm_region.proofs.Covering.{closed_cover, closing_keeps, cover_join, grown_large}
use Rattle.fm_region.proofs.Ends.{regions_cover}
use Rattle.fm_region.proofs.Joining.{join_at}
use Rattle.fm_region.proofs.Members.{filter_from, first_in}
use Rattle.fm_region.proofs.Naming.{closed_named, grown_named, later_in, map_in}
use Rattle.fm_region.proofs.Searching.{same_bool}
use Rattle.fm_region.proofs.Stages.{grown_end, grown_stays, grown_step, two_there}

-- the oldest terms of the classes are determined
pub oldest_same : (g : Graph) (sort : SortId) (xs ys : List TermId) → AreOldest g sort xs → AreOldest g sort ys → numbers xs ≡ numbers ys
oldest_same g sort xs ys ox oy =
    same_up (numbers xs) (numbers ys) (ascending_up xs ox.ascending) (ascending_up ys oy.ascending)
    (λ c h. contains_in ys (record { 0 = c }) ((oy.oldest (record { 0 = c })).1 ((ox.oldest (record { 0 = c })).0 (in_contains xs c h))))
    (λ c h. contains_in xs (record { 0 = c }) ((ox.oldest (record { 0 = c })).1 ((oy.oldest (record { 0 = c })).0 (in_contains ys c h))))

pub in_take : (n : ℕ) (xs : List ℕ) (c : ℕ) → is_in (take n xs) c ≡ true → is_in xs c ≡ true
in_take zero xs c h = absurd (false≢true h)
in_take (suc n) [] c h = h
in_take (suc n) (x ∷ xs) c h = elim (or_cases (c == x) (is_in (take n xs) c) h) [
  | inl same ↦ or_left (c == x) (is_in xs c) same
  | inr rest ↦ or_right (c == x) (is_in xs c) (in_take n xs c rest)
]

-- the terms at all places are all terms
names_from : (f : ℕ → ℕ) (xs : List ℕ) (a : ℕ) → ((i : ℕ) → i < length xs → f (a + i) ≡ get_or xs i 0) → map f (range_with_len a (length xs)) ≡ xs
names_from f [] a e = refl
names_from f (x ∷ xs) a e =
    let start : a + 0 ≡ a = omega arith in
    let first : f a ≡ x = ap f (sym start) ∙ e 0 (omega arith) in
    ap (λ y. y ∷ map f (range_with_len (a + 1) (length xs))) first
    ∙ ap (λ ys. x ∷ ys) (names_from f xs (a + 1) (λ i lt. let next : a + 1 + i ≡ a + suc i = omega arith in ap f next ∙ e (suc i) (omega (arith, lt))))

pub names : (ns : List ℕ) → map (number_at ns) (range_with_len 0 (length ns)) ≡ ns
names ns = names_from (number_at ns) ns 0 (λ i lt. let start : 0 + i ≡ i = omega arith in ap (number_at ns) start)

alone_named : (f : ℕ → ℕ) (cs : List ℕ) → map (map f) (map (λ c. c ∷ []) cs) ≡ map (λ c. c ∷ []) (map f cs)
alone_named f [] = refl
alone_named f (c ∷ cs) = ap (λ rs. (f c ∷ []) ∷ rs) (alone_named f cs)

abbrev pub AreParts : List ℕ → List (List ℕ) → Type 0
AreParts classes rs = (i : ℕ) → IsPart classes (region_at rs i)

pub no_part : (classes : List ℕ) → IsPart classes []
no_part classes = record { within = λ c h. absurd (false≢true h); up = tt }

part_later : (x : ℕ) (classes r : List ℕ) → IsPart classes r → IsPart (x ∷ classes) r
part_later x classes r p = record { within = λ c h. later_in x classes c (p.within c h); up = p.up }

alone_in : (x : ℕ) (xs : List ℕ) (c : ℕ) → is_in (x ∷ []) c ≡ true → is_in (x ∷ xs) c ≡ true
alone_in x xs c h = elim (or_cases (c == x) false h) [
  | inl same ↦ or_left (c == x) (is_in xs c) same
  | inr no_ ↦ absurd (false≢true no_)
]

pub parts_alone : (cs : List ℕ) → AreParts cs (map (λ c. c ∷ []) cs)
parts_alone [] i = no_part []
parts_alone (c ∷ cs) zero = record { within = alone_in c cs; up = (tt, tt) }
parts_alone (c ∷ cs) (suc i) = part_later c cs (region_at (map (λ c. c ∷ []) cs) i) (parts_alone cs i)

module _ (classes : List ℕ) (up : Up classes) where
  pub parts_join : (rs : List (List ℕ)) (i j : ℕ) → i < length rs → j < length rs → (i ≡ j → ⊥) → AreParts classes rs → AreParts classes (after_join classes rs i j)
  parts_join rs i j il jl ne parts m =
      let p : ℕ → Bool = λ c. is_in (region_at rs i) c || is_in (region_at rs j) c in
      elim (join_at classes rs i j il jl ne m) [
        | inl at ↦ subst (IsPart classes) (sym at.1) (record { within = λ c h. (filter_from p classes c h).0; up = up_filter p classes up })
        | inr at ↦ subst (IsPart classes) (sym at.stays) (parts at.from)
      ]

  pub closed_parts : (near : ℕ → ℕ → Bool) (k n : ℕ) (rs : List (List ℕ)) → AreParts classes rs → AreParts classes (closed_within near classes k n rs)
  closed_parts near k n rs parts = closing_keeps near classes k (AreParts classes) parts_join n rs parts

  pub grown_parts : (near : ℕ → ℕ → Bool) (k n : ℕ) (rs : List (List ℕ)) → Cover rs classes → AreParts classes rs → AreParts classes (grown_within near classes k n rs)
  grown_parts near k zero rs cover parts = subst (AreParts classes) (sym (grown_end near classes k rs)) parts
  grown_parts near k (suc n) rs cover parts =
      let together = after_join classes rs 0 1 in
      elim (cases_Bool (must_grow classes k rs)) [
        | inl must ↦
            let two = two_there near classes k (up_distinct classes up) rs cover must in
            let c = cover_join near classes k rs 0 1 (omega (arith, two)) (omega (arith, two)) (λ e. omega (arith, e)) cover in
            let p = parts_join rs 0 1 (omega (arith, two)) (omega (arith, two)) (λ e. omega (arith, e)) parts in
            subst (AreParts classes) (sym (grown_step near classes k n rs must)) (grown_parts near k n (closed near classes k together) (closed_cover near classes k (length together) together c) (closed_parts near k (length together) together p))
        | inr done ↦ subst (AreParts classes) (sym (grown_stays near classes k (suc n) rs done)) parts
      ]

apart_named : (f : ℕ → ℕ) (near apart : ℕ → ℕ → Bool) (x : ℕ) (cs : List ℕ) → ((d : ℕ) → is_in cs d ≡ true → apart (f x) (f d) ≡ near x d) → list_all (λ d. near x d) cs ≡ true → list_all (λ d. apart (f x) d) (map f cs) ≡ true
apart_named f near apart x [] e h = refl
apart_named f near apart x (c ∷ cs) e h =
    let b = and_parts (near x c) (list_all (λ d. near x d) cs) h in
    and_from (apart (f x) (f c)) (list_all (λ d. apart (f x) d) (map f cs)) (e c (first_in c cs) ∙ b.0) (apart_named f near apart x cs (λ d g. e d (later_in c cs d g)) b.1)

are_apart_named : (f : ℕ → ℕ) (near apart : ℕ → ℕ → Bool) (cs : List ℕ) → ((c d : ℕ) → is_in cs c ≡ true → is_in cs d ≡ true → apart (f c) (f d) ≡ near c d) → are_apart near cs ≡ true → are_apart apart (map f cs) ≡ true
are_apart_named f near apart [] e h = refl
are_apart_named f near apart (c ∷ cs) e h =
    let b = and_parts (list_all (λ d. near c d) cs) (are_apart near cs) h in
    and_from (list_all (λ d. apart (f c) d) (map f cs)) (are_apart apart (map f cs))
    (apart_named f near apart c cs (λ d g. e c d (first_in c cs) (later_in c cs d g)) b.0)
    (are_apart_named f near apart cs (λ x d g h. e x d (later_in c cs x g) (later_in c cs d h)) b.1)

module _ (terms : List TermId) (rows : List (List Bool)) (k : ℕ) (ascending : IsAscending terms) where
  abbrev ns : List ℕ
  ns = numbers terms

  abbrev pub places : List ℕ
  places = range_with_len 0 (length ns)

  abbrev f : ℕ → ℕ
  f = number_at ns

  abbrev near : ℕ → ℕ → Bool
  near = apart_in rows

  ascend : Up ns
  ascend = ascending_up terms ascending

  below : (c : ℕ) → is_in places c ≡ true → c < length ns
  below c h = let r = in_range 0 (length ns) c h in let lt = r.1 in omega (arith, lt)

  one : (c d : ℕ) → is_in places c ≡ true → is_in places d ≡ true → f c ≡ f d → c ≡ d
  one c d hc hd e =
      let lc = below c hc in
      let ld = below d hd in
      elim (cases_lt c d) [
        | inl lt ↦ absurd (let a = up_at ns ascend c d lt ld in omega (arith, a, e))
        | inr ge ↦ elim (cases_lt d c) [
          | inl lt ↦ absurd (let a = up_at ns ascend d c lt lc in omega (arith, a, e))
          | inr le ↦ omega (arith, ge, le)
        ]
      ]

  covered : Cover (regions_at near places k) places
  covered = regions_cover near places k

  parted : AreParts places (regions_at near places k)
  parted = closed_parts places (range_up 0 (length ns)) near k (length (map (λ c. c ∷ []) places)) (map (λ c. c ∷ []) places) (parts_alone places)

  grown_parted : AreParts places (grown_regions near places k)
  grown_parted = grown_parts places (range_up 0 (length ns)) near k (length (regions_at near places k)) (regions_at near places k) covered parted

  distinct : IsDistinct (λ c d. c == d) places
  distinct = up_distinct places (range_up 0 (length ns))

  module _ (apart : ℕ → ℕ → Bool) (agrees : (c d : ℕ) → c < length ns → d < length ns → apart (f c) (f d) ≡ near c d) where
    same : (c d : ℕ) → is_in places c ≡ true → is_in places d ≡ true → apart (f c) (f d) ≡ near c d
    same c d hc hd = agrees c d (below c hc) (below d hd)

    pub regions_told : map (map f) (regions_at near places k) ≡ regions_at apart ns k
    regions_told =
        let start = map (λ c. c ∷ []) places in
        sym (closed_named f near apart places k one same (length start) start (λ i. (parts_alone places i).within))
        ∙ (ap (λ (n : ℕ). closed_within apart (map f places) k n (map (map f) start)) (sym (length-map start (map f)))
        ∙ (ap (closed apart (map f places) k) (alone_named f places) ∙ ap (λ (cs : List ℕ). regions_at apart cs k) (names ns)))

    pub grown_told : map (map f) (grown_regions near places k) ≡ grown_regions apart ns k
    grown_told =
        let rs = regions_at near places k in
        sym (grown_named f near apart places k one same distinct (length rs) rs covered (λ i. (parted i).within))
        ∙ (ap (λ (n : ℕ). grown_within apart (map f places) k n (map (map f) rs)) (sym (length-map rs (map f)))
        ∙ (ap (grown apart (map f places) k) regions_told ∙ ap (λ (cs : List ℕ). grown apart cs k (regions_at apart ns k)) (names ns)))

    abbrev test : List ℕ
    test = test_of k (grown_regions near places k)

    test_part : IsPart places test
    test_part =
        let large = large_keeps (IsPart places) k (grown_regions near places k) (no_part places) grown_parted in
        record { within = λ c h. large.within c (in_take (k + 1) (first_large k (grown_regions near places k)) c h); up = up_take (k + 1) (first_large k (grown_regions near places k)) large.up }

    test_told : test_of k (grown_regions apart ns k) ≡ map f test
    test_told =
        ap (test_of k) (sym grown_told)
        ∙ (ap (take (k + 1)) (large_named f k (grown_regions near places k)) ∙ take-map f (k + 1) (first_large k (grown_regions near places k)))

    long : length places ≡ length ns
    long = length-range_with_len 0 (length ns)

    test_long : k < length ns → length test ≡ k + 1
    test_long more =
        let large = large_is k (grown_regions near places k) (grown_large near places k distinct (omega (arith, more, long)) (length (regions_at near places k)) (regions_at near places k) (omega arith) covered) in
        length-take-le (k + 1) (first_large k (grown_regions near places k)) (omega (arith, large))

    pub strong_told : (s : Strong) → IsFoundIn near ns k (grown_regions near places k) s → IsStrong apart ns k (grown_regions apart ns k) s
    strong_told Strong.Fits h = h
    strong_told (Strong.Split c d) h =
        let p = h.1.0 in
        let is = pair_is near test test_part.up p h.1.1 in
        let split : IsSplit apart (map f test) (f p.0) (f p.1) = record {
          first = map_in f test p.0 is.first;
          second = map_in f test p.1 is.second;
          older = up_at ns ascend p.0 p.1 is.older (below p.1 (test_part.within p.1 is.second));
          open_ = same p.0 p.1 (test_part.within p.0 is.first) (test_part.within p.1 is.second) ∙ is.open_;
        } in (
          h.0,
          subst (λ (x : ℕ). IsSplit apart (test_of k (grown_regions apart ns k)) x d.0) (sym h.1.2)
              (subst (λ (y : ℕ). IsSplit apart (test_of k (grown_regions apart ns k)) (f p.0) y) (sym h.1.3)
              (subst (λ (cs : List ℕ). IsSplit apart cs (f p.0) (f p.1)) (sym test_told) split)),
        )
    strong_told (Strong.Clique ts) h = (
      h.0,
      record {
        whole = h.2 ∙ sym test_told;
        size = ap length h.2 ∙ (length-map test f ∙ test_long h.0);
        apart_all = ap (are_apart apart) h.2 ∙ are_apart_named f near apart test (λ c d hc hd. same c d (test_part.within c hc) (test_part.within d hd)) (all_apart near test h.1);
      },
    )
