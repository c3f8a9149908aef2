-- Levels among contents that grow at their end and are cut again.
use Rattle.std.proofs.Common.{◌-◌, ◌≡◌, ℕ, zero, suc, ◌<◌, ◌≤◌, List, [], ◌∷◌, ◌++◌, length, map, take, Some, inl, inr, refl, sym, subst, ap, ◌∙◌, arith, get_or}
use Rattle.std.specs.Prelude.{slice_get}
use Rattle.std.proofs.lemmas.Bool.{cases_lt}
use Rattle.std.proofs.lemmas.List.{get_or-map, get_or-take, length-take-le, length-map, length_push, take-append-le, take-map}
use Rattle.std.proofs.lemmas.Option.{slice_get-get_or}
use Rattle.std.proofs.Math.Seq.{take-append_seam}
use Rattle.std.proofs.Math.ListN.{get_or-append}
use Rattle.fm_region.specs.Levels.{AreOpened, last_of, levels_of, newest}

pub map_same : {X : Type 0} → (f g : ℕ → X) (ns : List ℕ) (count : ℕ) → ((i : ℕ) → i < length ns → get_or ns i 0 ≤ count) → ((n : ℕ) → n ≤ count → f n ≡ g n) → map f ns ≡ map g ns
map_same f g [] count w e = refl
map_same f g (n ∷ ns) count w e = ap (λ x. x ∷ map f ns) (e n (w 0 (omega arith))) ∙ ap (λ xs. g n ∷ xs) (map_same f g ns count (λ i lt. w (suc i) (omega (arith, lt))) e)

pub take_within : {X : Type 0} → (n m : ℕ) (xs : List X) → n ≤ m → take n (take m xs) ≡ take n xs
take_within zero m xs le = refl
take_within (suc n) zero xs le = absurd (omega (arith, le))
take_within (suc n) (suc m) [] le = refl
take_within (suc n) (suc m) (x ∷ xs) le = ap (λ ys. x ∷ ys) (take_within n m xs (omega (arith, le)))

-- a front of the contents, with one more
pub levels_put : {X : Type 0} → (made : List (List X)) (keep : ℕ) (content : List X) (opened : List ℕ) → keep ≤ length made → ((i : ℕ) → i < length opened → get_or opened i 0 ≤ keep) → levels_of (take keep made ++ content ∷ []) opened ≡ levels_of made opened
levels_put made keep content opened le within =
    map_same (λ n. last_of (take n (take keep made ++ content ∷ []))) (λ n. last_of (take n made)) opened keep within
    (λ n few. ap last_of (take-append-le n (take keep made) (content ∷ []) (let e = length-take-le keep made le in omega (arith, e, few)) ∙ take_within n keep made few))

pub get_or_end : {X : Type 0} → (xs : List X) (x d : X) → get_or (xs ++ x ∷ []) (length xs) d ≡ x
get_or_end [] x d = refl
get_or_end (y ∷ xs) x d = get_or_end xs x d

pub last_end : {X : Type 0} → (made : List (List X)) (x : List X) → last_of (made ++ x ∷ []) ≡ x
last_end made x =
    let long = length_push made x in
    let at : length (made ++ x ∷ []) - 1 ≡ length made = omega (arith, long) in
    ap (λ (n : ℕ). get_or (made ++ x ∷ []) n []) at ∙ get_or_end made x []

pub newest_within : (count : ℕ) (opened : List ℕ) → AreOpened count opened → newest opened ≤ count
newest_within count [] o = omega arith
newest_within count (n ∷ ns) o = o.within (length (n ∷ ns) - 1) (omega arith)

pub newest_greatest : (count : ℕ) (opened : List ℕ) → AreOpened count opened → (i : ℕ) → i < length opened → get_or opened i 0 ≤ newest opened
newest_greatest count opened o i lt = o.ascend i (length opened - 1) (omega (arith, lt)) (omega (arith, lt))

module _ {X : Type 0} (read : List (List X)) (opened : List ℕ) (count level : ℕ) (o : AreOpened count opened) (lt : level < length opened) where
  pub cut_within : (i : ℕ) → i < length (take level opened) → get_or (take level opened) i 0 ≤ get_or opened level 0
  cut_within i l =
      let below : i < level = omega (arith, l, length-take-le level opened (omega (arith, lt))) in
      subst (λ (n : ℕ). n ≤ get_or opened level 0) (sym (get_or-take level opened i 0 below)) (o.ascend i level (omega (arith, below)) lt)

  pub levels_cut : levels_of (take (get_or opened level 0) read) (take level opened) ≡ take level (levels_of read opened)
  levels_cut =
      map_same (λ n. last_of (take n (take (get_or opened level 0) read))) (λ n. last_of (take n read)) (take level opened) (get_or opened level 0) cut_within (λ n le. ap last_of (take_within n (get_or opened level 0) read le)) ∙ sym (take-map (λ n. last_of (take n read)) level opened)

  pub level_at : slice_get (levels_of read opened) level ≡ Some (last_of (take (get_or opened level 0) read))
  level_at = slice_get-get_or (levels_of read opened) level [] (omega (arith, lt, length-map opened (λ (n : ℕ). last_of (take n read)))) ∙ ap Some (get_or-map (λ n. last_of (take n read)) opened level 0 [] lt)

  pub opened_cut : AreOpened (get_or opened level 0) (take level opened)
  opened_cut = record {
    ascend = λ i j le l.
        let few = length-take-le level opened (omega (arith, lt)) in
        let below : j < level = omega (arith, l, few) in
        subst (λ (n : ℕ). n ≤ get_or (take level opened) j 0) (sym (get_or-take level opened i 0 (omega (arith, le, below)))) (subst (λ (n : ℕ). get_or opened i 0 ≤ n) (sym (get_or-take level opened j 0 below)) (o.ascend i j le (omega (arith, below, lt))));
    within = cut_within;
  }

pub opened_more : (count more : ℕ) (opened : List ℕ) → count ≤ more → AreOpened count opened → AreOpened more opened
opened_more count more opened le o = record { ascend = o.ascend; within = λ i lt. let w = o.within i lt in omega (arith, w, le) }

pub opened_push : (count : ℕ) (opened : List ℕ) → AreOpened count opened → AreOpened count (opened ++ count ∷ [])
opened_push count opened o =
    let long = length_push opened count in
    let old : (i : ℕ) → i < length opened → get_or (opened ++ count ∷ []) i 0 ≡ get_or opened i 0 = λ i l. get_or-append opened (count ∷ []) 0 i l in
    let within : (i : ℕ) → i < length (opened ++ count ∷ []) → get_or (opened ++ count ∷ []) i 0 ≤ count = λ i l. elim (cases_lt i (length opened)) [
      | inl below ↦ subst (λ (n : ℕ). n ≤ count) (sym (old i below)) (o.within i below)
      | inr above ↦ let e : i ≡ length opened = omega (arith, above, l, long) in subst (λ (n : ℕ). n ≤ count) (sym (ap (λ (m : ℕ). get_or (opened ++ count ∷ []) m 0) e ∙ get_or_end opened count 0)) (omega arith)
    ] in
    record {
      ascend = λ i j le l. elim (cases_lt j (length opened)) [
        | inl below ↦ subst (λ (n : ℕ). n ≤ get_or (opened ++ count ∷ []) j 0) (sym (old i (omega (arith, le, below)))) (subst (λ (n : ℕ). get_or opened i 0 ≤ n) (sym (old j below)) (o.ascend i j le below))
        | inr above ↦ let e : j ≡ length opened = omega (arith, above, l, long) in subst (λ (n : ℕ). get_or (opened ++ count ∷ []) i 0 ≤ n) (sym (ap (λ (m : ℕ). get_or (opened ++ count ∷ []) m 0) e ∙ get_or_end opened count 0)) (within i (omega (arith, le, l)))
      ];
      within = within;
    }

pub popped_front : {X : Type 0} → (full now new : List X) (x : X) → now ≡ take (length now) full → now ≡ new ++ x ∷ [] → new ≡ take (length new) full
popped_front full now new x front pop =
    let n = length new in
    sym (take-append_seam new (x ∷ [])) ∙ (ap (take n) (sym pop ∙ front) ∙ take_within n (length now) full (let e = ap length pop ∙ length_push new x in omega (arith, e)))

pub none_opened : (count : ℕ) → AreOpened count []
none_opened count = record { ascend = λ i j le lt. absurd (omega (arith, lt)); within = λ i lt. absurd (omega (arith, lt)) }

pub opened_put : {X : Type 0} → (made : List X) (keep : ℕ) (x : X) (opened : List ℕ) → keep ≤ length made → ((i : ℕ) → i < length opened → get_or opened i 0 ≤ keep) → AreOpened (length made) opened → AreOpened (length (take keep made ++ x ∷ [])) opened
opened_put made keep x opened le within o =
    let long = length_push (take keep made) x in
    let cut = length-take-le keep made le in
    record { ascend = o.ascend; within = λ i lt. let w = within i lt in omega (arith, w, long, cut) }
