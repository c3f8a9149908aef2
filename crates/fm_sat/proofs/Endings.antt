-- Where a walk begins, and what is left at its end.
use Rattle.std.proofs.Common.{◌≡◌, ℕ, ◌<◌, ◌≤◌, Bool, true, false, ◌&&◌, List, [], ◌∷◌, ◌++◌, length, replicate, Some, inl, inr, refl, sym, subst, ap, ◌∙◌, arith}
use Rattle.std.specs.Prelude.{slice_get, slice_set, max, ◌⊎◌}
use Rattle.std.proofs.lemmas.Bool.{cases_lt, false≢true}
use Rattle.std.proofs.lemmas.Option.{slice_get_within}
use Rattle.fm_base.specs.declared.ids.Lit.{Lit}
use Rattle.fm_base.specs.Resolution.{AreDistinct, Has, SameSet, opposite}
use Rattle.fm_trail.specs.declared.entry.Entry.{Entry}
use Rattle.fm_trail.specs.Trail.{AreLevelled, HasOneEntry, are_false, is_false, level_on}
use Rattle.fm_trail.proofs.Places.{place_some}
use Rattle.fm_trail.proofs.Literals.{false_at, false_by, level_at, level_by_place}
use Rattle.fm_sat.specs.Learning.{Derives, IsConflict, IsHighest, IsHighestBeside, StandsAlone}
use Rattle.fm_sat.specs.Marks.{AreBelow, AreCounted, AreJoined, AreLow, IsLastMark, IsMarked, IsSeenIn, Marked, marked}
use Rattle.fm_sat.proofs.Counts.{MarkedAt, count_unset, counted_some, has_marked, mark_none, marked_has, none_marked, one_here, same_place}
use Rattle.fm_sat.proofs.Counted.{distinct_push, has_left, has_push, has_right, same_entry}
use Rattle.fm_sat.proofs.Steps.{last_top, seen_is, step_from}

pub record IsMax (a b m : ℕ) : Type 0 where
  pub left : a ≤ m
  pub right : b ≤ m
  pub one : (m ≡ a) ⊎ (m ≡ b)

pub max_is : (a b m : ℕ) → m ≡ max a b → IsMax a b m
max_is a b m is = elim (cases_lt a b) [
  | inl lt ↦ record { left = omega arith; right = omega arith; one = inr (omega arith) }
  | inr le ↦ record { left = omega arith; right = omega arith; one = inl (omega arith) }
]

pub highest_more : (es : List Entry) (xs : List Lit) (l : Lit) (n m : ℕ) → IsHighest es xs n → IsMax (level_on es l) n m → IsHighest es (xs ++ l ∷ []) m
highest_more es xs l n m h max = record {
  bound = λ k has. elim (has_push xs l k has) [ inl was ↦ omega (arith, h.bound k was, max.right) | inr here ↦ subst (λ (j : Lit). level_on es j ≤ m) here max.left ];
  met = elim max.one [
    | inl is ↦ inr (l, has_right xs (l ∷ []) l (inl refl), sym is)
    | inr is ↦ elim h.met [ inl zero' ↦ inl (is ∙ zero') | inr w ↦ inr (w.0, has_left xs (l ∷ []) w.0 w.1, w.2 ∙ sym is) ]
  ];
}

pub false_member : (es : List Entry) (c : List Lit) (k : Lit) → are_false es c ≡ true → Has c k → is_false es k ≡ true
false_member es [] k h has = absurd has
false_member es (l ∷ c) k h has = elim has [ inl here ↦ subst (λ (j : Lit). is_false es j ≡ true) here (first (is_false es l) (are_false es c) h) | inr more ↦ false_member es c k (second (is_false es l) (are_false es c) h) more ]
  where
    first : (a b : Bool) → (a && b) ≡ true → a ≡ true
    first true b h = refl
    first false b h = absurd (false≢true h)

    second : (a b : Bool) → (a && b) ≡ true → b ≡ true
    second true b h = h
    second false b h = absurd (false≢true h)

pub all_false : (es : List Entry) (c : List Lit) → ((k : Lit) → Has c k → is_false es k ≡ true) → are_false es c ≡ true
all_false es [] h = refl
all_false es (l ∷ c) h = λ i. h l (inl refl) i && all_false es c (λ k has. h k (inr has)) i

-- the marks of a false clause stand for it
pub start_set : (es : List Entry) (c : List Lit) (ms : List Bool) → are_false es c ≡ true → AreJoined es c (length es) (replicate (length es) false) ms → SameSet c (marked ms es)
start_set es c ms falses joined k = (
  λ has.
      let f = false_at es k (false_member es c k falses has) in
      let s : IsSeenIn es c (length es) f.0 = record { lit = k; has = has; place = f.1.place; below = slice_get_within es f.0 f.1.entry f.1.at } in
      subst (Has (marked ms es)) f.1.is (has_marked ms es f.0 f.1.entry ((joined f.0).1 (inr s)) f.1.at),
  λ has.
      let w = marked_has ms es k has in
      elim ((joined w.0).0 w.1.mark) [
        | inl was ↦ absurd (none_marked (length es) w.0 was)
        | inr s ↦ let f = false_at es s.lit (false_member es c s.lit falses s.has) in subst (Has c) (seen_is es s.lit k w.0 f.0 w.1.entry f.1 s.place w.1.at w.1.is) s.has
      ],
)

pub start_low : (es : List Entry) (c : List Lit) (top : ℕ) → IsHighest es c top → AreLow es c (length es) top
start_low es c top h p s =
    let d = place_some es s.lit.atom p s.place in
    (d.entry, d.there, subst (λ (n : ℕ). n ≤ top) (level_by_place es s.lit p d.entry s.place d.there) (h.bound s.lit s.has))

-- some literal of the highest level is marked
pub start_some : (cs : List (List Lit)) (es : List Entry) (number : ℕ) (c : List Lit) (top : ℕ) (ms : List Bool) (n : ℕ) (lower : List Lit) → HasOneEntry es → IsConflict cs es number → slice_get cs number ≡ Some c → IsHighest es c top → AreCounted es top ms n lower → SameSet c (marked ms es) → 1 ≤ n
start_some cs es number c top ms n lower once conflict stored h counted same =
    let it : conflict.clause ≡ c = (let s : Some conflict.clause ≡ Some c = sym conflict.stored ∙ stored in cc) in
    let above = subst (λ (x : List Lit). (k : Lit) × Has x k × (0 < level_on es k)) it conflict.above in
    let le = h.bound above.0 above.1 in
    elim h.met [
      | inl zero' ↦ let lt = above.2 in absurd (omega arith)
      | inr k ↦
          let w = marked_has ms es k.0 ((same k.0).0 k.1) in
          let level = level_at es k.0 w.0 w.1.entry once w.1.at (ap (λ (d : Lit). d.atom.0) w.1.is) in
          omega (arith, counted.count_is, counted_some top ms es w.0 (record { entry = w.1.entry; mark = w.1.mark; at = w.1.at; level = sym level ∙ k.2 }))
    ]

-- one mark of the highest level is left
pub only_one : (es : List Entry) (top : ℕ) (ms : List Bool) (lower : List Lit) (p q : ℕ) (e f : Entry) → AreCounted es top ms 1 lower → IsMarked ms p → slice_get es p ≡ Some e → e.level ≡ top → IsMarked ms q → slice_get es q ≡ Some f → f.level ≡ top → q ≡ p
only_one es top ms lower p q e f c is at level is' at' level' =
    elim (same_place q p) [
      | inl same ↦ same
      | inr other ↦
          let rest = count_unset top ms es p e is at in
          let m : MarkedAt (slice_set ms p false) es top q = record { entry = f; mark = (mark_none ms p (slice_get_within ms p true is) q).1 (is', other); at = at'; level = level' } in
          absurd (omega (arith, c.count_is, rest, one_here top e level, counted_some top (slice_set ms p false) es q m))
    ]

-- the end of a walk that leaves one literal of the highest level
pub record IsLeft (es : List Entry) (top : ℕ) (ms : List Bool) (lower : List Lit) (p : ℕ) (e : Entry) : Type 0 where
  pub once : HasOneEntry es
  pub counted : AreCounted es top ms 1 lower
  pub mark : IsMarked ms p
  pub at : slice_get es p ≡ Some e
  pub level : e.level ≡ top

less_or_top : (m n : ℕ) → m ≤ n → (m < n) ⊎ (m ≡ n)
less_or_top m n le = elim (same_place m n) [ inl same ↦ inr same | inr other ↦ inl (omega arith) ]

pub end_set : (es : List Entry) (top : ℕ) (ms : List Bool) (lower : List Lit) (p : ℕ) (e : Entry) → IsLeft es top ms lower p e → SameSet (marked ms es) (lower ++ opposite e.lit ∷ [])
end_set es top ms lower p e left k = (
  λ has.
      let w = marked_has ms es k has in
      let m : Marked ms es w.0 = record { entry = w.1.entry; mark = w.1.mark; at = w.1.at } in
      elim (less_or_top w.1.entry.level top (left.counted.low w.0 m)) [
        | inl less ↦ has_left lower (opposite e.lit ∷ []) k ((left.counted.lower_are k).1 (w.0, m, less, w.1.is))
        | inr level ↦
            let here = only_one es top ms lower p w.0 e w.1.entry left.counted left.mark left.at left.level w.1.mark w.1.at level in
            let same = same_entry es p w.1.entry e (subst (λ (n : ℕ). slice_get es n ≡ Some w.1.entry) here w.1.at) left.at in
            has_right lower (opposite e.lit ∷ []) k (inl (sym (ap (λ (d : Entry). opposite d.lit) same) ∙ w.1.is))
      ],
  λ has. elim (has_push lower (opposite e.lit) k has) [
    | inl low ↦ let w = (left.counted.lower_are k).0 low in subst (Has (marked ms es)) w.3 (has_marked ms es w.0 w.1.entry w.1.mark w.1.at)
    | inr here ↦ subst (Has (marked ms es)) here (has_marked ms es p e left.mark left.at)
  ],
)

lower_level : (es : List Entry) (top : ℕ) (ms : List Bool) (lower : List Lit) (p : ℕ) (e : Entry) → IsLeft es top ms lower p e → (k : Lit) → Has lower k → level_on es k < top
lower_level es top ms lower p e left k has =
    let w = (left.counted.lower_are k).0 has in
    let level = level_at es k w.0 w.1.entry left.once w.1.at (ap (λ (d : Lit). d.atom.0) w.3) in
    omega (arith, level, w.2)

pub end_level : (es : List Entry) (top : ℕ) (ms : List Bool) (lower : List Lit) (p : ℕ) (e : Entry) → IsLeft es top ms lower p e → level_on es (opposite e.lit) ≡ top
end_level es top ms lower p e left = level_at es (opposite e.lit) p e left.once left.at refl ∙ left.level

pub end_alone : (es : List Entry) (top : ℕ) (ms : List Bool) (lower : List Lit) (p : ℕ) (e : Entry) → IsLeft es top ms lower p e → StandsAlone es (lower ++ opposite e.lit ∷ []) (opposite e.lit)
end_alone es top ms lower p e left = record {
  has = has_right lower (opposite e.lit ∷ []) (opposite e.lit) (inl refl);
  above = λ k has ne. elim (has_push lower (opposite e.lit) k has) [ inl low ↦ omega (arith, lower_level es top ms lower p e left k low, end_level es top ms lower p e left) | inr here ↦ absurd (ne (sym here)) ];
}

pub end_once : (es : List Entry) (top : ℕ) (ms : List Bool) (lower : List Lit) (p : ℕ) (e : Entry) → IsLeft es top ms lower p e → AreDistinct (lower ++ opposite e.lit ∷ [])
end_once es top ms lower p e left = distinct_push lower (opposite e.lit) left.counted.lower_once (λ has. let less = lower_level es top ms lower p e left (opposite e.lit) has in let level = end_level es top ms lower p e left in omega arith)

pub end_false : (es : List Entry) (top : ℕ) (ms : List Bool) (lower : List Lit) (p : ℕ) (e : Entry) → IsLeft es top ms lower p e → are_false es (lower ++ opposite e.lit ∷ []) ≡ true
end_false es top ms lower p e left = all_false es (lower ++ opposite e.lit ∷ []) (λ k has. elim (has_push lower (opposite e.lit) k has) [
  | inl low ↦ let w = (left.counted.lower_are k).0 low in subst (λ (j : Lit). is_false es j ≡ true) w.3 (false_by es w.0 w.1.entry left.once w.1.at)
  | inr here ↦ subst (λ (j : Lit). is_false es j ≡ true) here (false_by es p e left.once left.at)
])

pub end_beside : (es : List Entry) (top : ℕ) (ms : List Bool) (lower : List Lit) (p : ℕ) (e : Entry) (level : ℕ) → IsLeft es top ms lower p e → IsHighest es lower level → IsHighestBeside es (lower ++ opposite e.lit ∷ []) (opposite e.lit) level
end_beside es top ms lower p e level left h = record {
  bound = λ k has ne. elim (has_push lower (opposite e.lit) k has) [ inl low ↦ h.bound k low | inr here ↦ absurd (ne (sym here)) ];
  met = elim h.met [
    | inl zero' ↦ inl zero'
    | inr w ↦ inr (w.0, has_left lower (opposite e.lit ∷ []) w.0 w.1, λ same. (let less = lower_level es top ms lower p e left w.0 w.1 in let eq = ap (level_on es) same in let t = end_level es top ms lower p e left in omega arith), w.2)
  ];
}

pub derives_from : (keep : ℕ) (cs : List (List Lit)) (es : List Entry) (start : List Lit) (ss : List (Lit × ℕ)) (end last : List Lit) → Derives keep cs es start ss end → SameSet end last → Derives keep cs es start ss last
derives_from keep cs es start [] end last d same = λ k. (λ h. (same k).0 ((d k).0 h), λ h. (d k).1 ((same k).1 h))
derives_from keep cs es start (s ∷ ss) end last (next, step, rest) same = (next, step, derives_from keep cs es next ss end last rest same)

pub left_is : (es : List Entry) (top : ℕ) (ms : List Bool) (n : ℕ) (lower : List Lit) (end p : ℕ) (e : Entry) → AreLevelled 0 es → HasOneEntry es → AreCounted es top ms n lower → n ≡ 1 → AreBelow ms end → IsLastMark ms end p → slice_get es p ≡ Some e → IsLeft es top ms lower p e
left_is es top ms n lower end p e levels once counted one below last at = record {
  once = once;
  counted = subst (λ (k : ℕ). AreCounted es top ms k lower) one counted;
  mark = last.marked;
  at = at;
  level = last_top es top ms n lower p e levels counted (omega arith) (record { marked = last.marked; last = λ q is. last.last q is (below q is) }) at;
}

pub derives_start : (keep : ℕ) (cs : List (List Lit)) (es : List Entry) (start now : List Lit) (ss : List (Lit × ℕ)) (end : List Lit) → SameSet start now → Derives keep cs es now ss end → Derives keep cs es start ss end
derives_start keep cs es start now [] end same d = λ k. (λ h. (d k).0 ((same k).0 h), λ h. (same k).1 ((d k).1 h))
derives_start keep cs es start now (s ∷ ss) end same (next, step, rest) = (next, step_from keep cs es start now s.0 s.1 next same step, rest)

pub end_less : (es : List Entry) (top : ℕ) (ms : List Bool) (lower : List Lit) (p : ℕ) (e : Entry) (level : ℕ) → IsLeft es top ms lower p e → IsHighest es lower level → 0 < top → level < level_on es (opposite e.lit)
end_less es top ms lower p e level left h some =
    let t = end_level es top ms lower p e left in
    elim h.met [
      | inl zero' ↦ omega arith
      | inr w ↦ omega (arith, lower_level es top ms lower p e left w.0 w.1, w.2)
    ]

pub top_some : (cs : List (List Lit)) (es : List Entry) (number : ℕ) (c : List Lit) (top : ℕ) → IsConflict cs es number → slice_get cs number ≡ Some c → IsHighest es c top → 0 < top
top_some cs es number c top conflict stored h =
    let it : conflict.clause ≡ c = (let s : Some conflict.clause ≡ Some c = sym conflict.stored ∙ stored in cc) in
    let above = subst (λ (x : List Lit). (k : Lit) × Has x k × (0 < level_on es k)) it conflict.above in
    omega (arith, h.bound above.0 above.1, above.2)
