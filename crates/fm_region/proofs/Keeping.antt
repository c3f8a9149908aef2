-- Parts with their counts: at the start, and once two are joined.
use Rattle.std.proofs.Common.{◌≡◌, ℕ, zero, suc, ◌-◌, ◌<◌, Bool, true, false, cond, ◌||◌, List, [], ◌∷◌, length, map, min, max, inl, inr, refl, sym, subst, ap, ◌∙◌, arith, get_or}
use Rattle.std.specs.Prelude.{nat_lt, slice_set, if◌then◌else◌, ◌==◌}
use Rattle.std.specs.List.{list_any, range_with_len, remove}
use Rattle.std.proofs.lemmas.Bool.{eqb-true, false≢true, or_cases}
use Rattle.std.proofs.lemmas.List.{length-map, map-set}
use Rattle.std.proofs.lemmas.List.FromFn.{get_or-map-range_with_len}
use Rattle.std.proofs.lemmas.List.Sums.{length-filter}
use Rattle.fm_region.specs.Parts.{AreDegrees, AreKept, IsCounted, IsPart, IsTable, Up, apart_from, classes_of, count_at, no_part, part_at, put_joined, regions_of, alone_part, sum_at}
use Rattle.fm_bank.specs.Regions.{after_join, apart_outside, is_in, joined, region_at, touches}
use Rattle.fm_region.specs.declared.parts.Part.{Part}
use Rattle.fm_region.proofs.Ascending.{above_of, in_range, range_up}
use Rattle.fm_region.proofs.Counting.{joined_count, joined_few, map_on, meets_is, outside_count}
use Rattle.fm_region.proofs.Joining.{join_at, put_at}
use Rattle.fm_region.proofs.Members.{filter_from}
use Rattle.fm_region.proofs.Naming.{map_remove}
use Rattle.fm_region.proofs.Telling.{parts_alone, parts_join}

pub at_part : (parts : List Part) (i : ℕ) → region_at (regions_of parts) i ≡ (part_at parts i).classes
at_part [] i = refl
at_part (p ∷ parts) zero = refl
at_part (p ∷ parts) (suc i) = at_part parts i

pub parts_long : (parts : List Part) → length (regions_of parts) ≡ length parts
parts_long parts = length-map parts classes_of

pub alone_regions : (apart : ℕ → ℕ → Bool) (classes cs : List ℕ) → regions_of (map (alone_part apart classes) cs) ≡ map (λ c. c ∷ []) cs
alone_regions apart classes [] = refl
alone_regions apart classes (c ∷ cs) = ap (λ rs. (c ∷ []) ∷ rs) (alone_regions apart classes cs)

alone_at : (apart : ℕ → ℕ → Bool) (classes : List ℕ) (P : Part → Type 0) → P no_part → ((c : ℕ) → P (alone_part apart classes c)) → (cs : List ℕ) (i : ℕ) → P (part_at (map (alone_part apart classes) cs) i)
alone_at apart classes P none each [] i = none
alone_at apart classes P none each (c ∷ cs) zero = each c
alone_at apart classes P none each (c ∷ cs) (suc i) = alone_at apart classes P none each cs i

one_by : (b : Bool) (c : ℕ) → (if b then 1 else 0) ≡ length (cond b (c ∷ []) [])
one_by true c = refl
one_by false c = refl

pub only_in : (x c : ℕ) → is_in (x ∷ []) c ≡ true → c ≡ x
only_in x c h = elim (or_cases (c == x) false h) [ inl same ↦ eqb-true c x same | inr none ↦ absurd (false≢true none) ]

pub at_place : (classes : List ℕ) → classes ≡ range_with_len 0 (length classes) → (f : ℕ → ℕ) (c : ℕ) → is_in classes c ≡ true → get_or (map f classes) c 0 ≡ f c
at_place classes e f c h =
    let n = length classes in
    let below = in_range 0 n c (subst (λ (cs : List ℕ). is_in cs c ≡ true) e h) in
    let lt = below.1 in
    ap (λ (cs : List ℕ). get_or (map f cs) c 0) e ∙ get_or-map-range_with_len f 0 n c c 0 (omega (arith, lt)) (omega arith)

singles_differ : (cs : List ℕ) → Up cs → (i j c : ℕ) → is_in (region_at (map (λ x. x ∷ []) cs) i) c ≡ true → is_in (region_at (map (λ x. x ∷ []) cs) j) c ≡ true → i ≡ j
singles_differ [] up i j c hi hj = absurd (false≢true hi)
singles_differ (x ∷ xs) up zero zero c hi hj = refl
singles_differ (x ∷ xs) up zero (suc j) c hi hj = absurd (let e = only_in x c hi in let lt = above_of x xs up.0 c ((parts_alone xs j).within c hj) in omega (arith, e, lt))
singles_differ (x ∷ xs) up (suc i) zero c hi hj = absurd (let e = only_in x c hj in let lt = above_of x xs up.0 c ((parts_alone xs i).within c hi) in omega (arith, e, lt))
singles_differ (x ∷ xs) up (suc i) (suc j) c hi hj = ap suc (singles_differ xs up.1 i j c hi hj)

module _ (apart : ℕ → ℕ → Bool) (classes : List ℕ) (table : IsTable apart classes) where
  pub all_up : Up classes
  all_up = subst Up (sym table.places) (range_up 0 (length classes))

  pub degrees_are : AreDegrees apart classes (map (apart_from apart classes) classes)
  degrees_are c h = at_place classes table.places (apart_from apart classes) c h

  pub alone_kept : AreKept apart classes (map (alone_part apart classes) classes)
  alone_kept =
      let same = alone_regions apart classes classes in
      record {
        counted = alone_at apart classes (IsCounted apart classes) (λ c h. refl)
            (λ x c h. at_place classes table.places (λ d. if apart d x then 1 else 0) c h ∙ (one_by (apart c x) x ∙ length-filter (λ d. apart c d) (x ∷ []))) classes;
        each = subst (λ (rs : List (List ℕ)). (i : ℕ) → IsPart classes (region_at rs i)) (sym same) (parts_alone classes);
        disjoint = subst (λ (rs : List (List ℕ)). (i j c : ℕ) → is_in (region_at rs i) c ≡ true → is_in (region_at rs j) c ≡ true → i ≡ j) (sym same) (singles_differ classes all_up);
      }

  pub outs_are : (degrees : List ℕ) (p : Part) → AreDegrees apart classes degrees → IsCounted apart classes p → IsPart classes p.classes → map (λ c. count_at degrees c - count_at p.inside c) p.classes ≡ map (apart_outside apart classes p.classes) p.classes
  outs_are degrees p all counted part =
      map_on (λ c. count_at degrees c - count_at p.inside c) (apart_outside apart classes p.classes) p.classes
      (λ c h. ap (λ (n : ℕ). n - count_at p.inside c) (all c (part.within c h)) ∙ (ap (λ (n : ℕ). apart_from apart classes c - n) (counted c (part.within c h)) ∙ outside_count apart classes all_up p.classes part c))

  module _ (parts : List Part) (kept : AreKept apart classes parts) where
    pub part_of : (i : ℕ) → IsPart classes (part_at parts i).classes
    part_of i = subst (IsPart classes) (at_part parts i) (kept.each i)

    pub outs_at : (degrees : List ℕ) → AreDegrees apart classes degrees → (i : ℕ) (p : Part) → p ≡ part_at parts i → map (λ c. count_at degrees c - count_at p.inside c) p.classes ≡ map (apart_outside apart classes (part_at parts i).classes) (part_at parts i).classes
    outs_at degrees all i p e =
        ap (λ (q : Part). map (λ c. count_at degrees c - count_at q.inside c) q.classes) e ∙ outs_are degrees (part_at parts i) all (kept.counted i) (part_of i)

    pub meets_at : (i j : ℕ) → list_any (λ d. nat_lt 0 (count_at (part_at parts i).inside d)) (part_at parts j).classes ≡ touches apart (region_at (regions_of parts) i) (region_at (regions_of parts) j)
    meets_at i j =
        meets_is apart classes all_up table.symmetric (part_at parts i).classes (part_at parts j).classes (part_at parts i).inside (part_of i) (part_of j) (kept.counted i)
        ∙ (ap (λ (r : List ℕ). touches apart r (part_at parts j).classes) (sym (at_part parts i)) ∙ ap (touches apart (region_at (regions_of parts) i)) (sym (at_part parts j)))

    module _ (i j : ℕ) (il : i < length parts) (jl : j < length parts) (ne : i ≡ j → ⊥) (both : Part) (classes_are : both.classes ≡ joined classes (part_at parts i).classes (part_at parts j).classes) where
      abbrev rs : List (List ℕ)
      rs = regions_of parts

      in_rs_i : i < length rs
      in_rs_i = let e = parts_long parts in omega (arith, il, e)

      in_rs_j : j < length rs
      in_rs_j = let e = parts_long parts in omega (arith, jl, e)

      joined_is : both.classes ≡ joined classes (region_at rs i) (region_at rs j)
      joined_is = classes_are ∙ (ap (λ (r : List ℕ). joined classes r (part_at parts j).classes) (sym (at_part parts i)) ∙ ap (joined classes (region_at rs i)) (sym (at_part parts j)))

      pub put_regions : regions_of (put_joined parts i j both) ≡ after_join classes rs i j
      put_regions =
          map_remove classes_of (slice_set parts (min i j) both) (max i j)
          ∙ (ap (λ (xs : List (List ℕ)). remove xs (max i j)) (map-set classes_of parts (min i j) both) ∙ ap (λ (r : List ℕ). remove (slice_set rs (min i j) r) (max i j)) joined_is)

      in_joined : (c : ℕ) → is_in (joined classes (region_at rs i) (region_at rs j)) c ≡ true → (m : ℕ) → (m ≡ i → ⊥) → (m ≡ j → ⊥) → is_in (region_at rs m) c ≡ true → ⊥
      in_joined c h m ni nj g =
          let b = filter_from (λ z. is_in (region_at rs i) z || is_in (region_at rs j) z) classes c h in
          elim (or_cases (is_in (region_at rs i) c) (is_in (region_at rs j) c) b.1) [
            | inl first ↦ ni (kept.disjoint m i c g first)
            | inr second ↦ nj (kept.disjoint m j c g second)
          ]

      still_disjoint : (a b c : ℕ) → is_in (region_at (after_join classes rs i j) a) c ≡ true → is_in (region_at (after_join classes rs i j) b) c ≡ true → a ≡ b
      still_disjoint a b c ha hb =
          elim (join_at classes rs i j in_rs_i in_rs_j ne a) [
            | inl first ↦ elim (join_at classes rs i j in_rs_i in_rs_j ne b) [
              | inl second ↦ first.0 ∙ sym second.0
              | inr second ↦ absurd (in_joined c (subst (λ (r : List ℕ). is_in r c ≡ true) first.1 ha) second.from second.other second.neither (subst (λ (r : List ℕ). is_in r c ≡ true) second.stays hb))
            ]
            | inr first ↦ elim (join_at classes rs i j in_rs_i in_rs_j ne b) [
              | inl second ↦ absurd (in_joined c (subst (λ (r : List ℕ). is_in r c ≡ true) second.1 hb) first.from first.other first.neither (subst (λ (r : List ℕ). is_in r c ≡ true) first.stays ha))
              | inr second ↦
                  let e = kept.disjoint first.from second.from c (subst (λ (r : List ℕ). is_in r c ≡ true) first.stays ha) (subst (λ (r : List ℕ). is_in r c ≡ true) second.stays hb) in
                  elim first.place [
                    | inl p ↦ elim second.place [ inl q ↦ (let x = p.1 in let y = q.1 in omega (arith, e, x, y)) | inr q ↦ (let w = p.0 in let x = p.1 in let v = q.0 in let y = q.1 in absurd (omega (arith, e, x, y, w, v))) ]
                    | inr p ↦ elim second.place [ inl q ↦ (let w = p.0 in let x = p.1 in let v = q.0 in let y = q.1 in absurd (omega (arith, e, x, y, w, v))) | inr q ↦ (let x = p.1 in let y = q.1 in omega (arith, e, x, y)) ]
                  ]
            ]
          ]

      both_counted : both.inside ≡ map (sum_at (part_at parts i).inside (part_at parts j).inside) classes → IsCounted apart classes both
      both_counted e c h =
          let a = (part_at parts i).classes in
          let b = (part_at parts j).classes in
          let sums = joined_count apart classes all_up a b (part_of i) (part_of j)
          (λ d x y. ne (kept.disjoint i j d (subst (λ (r : List ℕ). is_in r d ≡ true) (sym (at_part parts i)) x) (subst (λ (r : List ℕ). is_in r d ≡ true) (sym (at_part parts j)) y))) c in
          let few = joined_few apart classes all_up a b c in
          let left = kept.counted i c h in
          let right = kept.counted j c h in
          let small = table.few in
          let exact : sum_at (part_at parts i).inside (part_at parts j).inside c ≡ apart_from apart (joined classes a b) c = omega (arith, sums, few, left, right, small) in
          ap (λ (ns : List ℕ). get_or ns c 0) e ∙ (at_place classes table.places (sum_at (part_at parts i).inside (part_at parts j).inside) c h ∙ (exact ∙ ap (λ (r : List ℕ). apart_from apart r c) (sym classes_are)))

      pub put_kept : both.inside ≡ map (sum_at (part_at parts i).inside (part_at parts j).inside) classes → AreKept apart classes (put_joined parts i j both)
      put_kept e = record {
        counted = λ m. elim (put_at parts both no_part i j il jl ne m) [
          | inl at ↦ subst (IsCounted apart classes) (sym at.1) (both_counted e)
          | inr at ↦ subst (IsCounted apart classes) (sym at.stays) (kept.counted at.from)
        ];
        each = subst (λ (xs : List (List ℕ)). (m : ℕ) → IsPart classes (region_at xs m)) (sym put_regions) (parts_join classes all_up rs i j in_rs_i in_rs_j ne kept.each);
        disjoint = subst (λ (xs : List (List ℕ)). (a b c : ℕ) → is_in (region_at xs a) c ≡ true → is_in (region_at xs b) c ≡ true → a ≡ b) (sym put_regions) still_disjoint;
      }
