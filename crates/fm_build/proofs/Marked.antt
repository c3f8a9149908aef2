-- Marking some terms after others.
use Rattle.std.proofs.Common.{set, ◌≡◌, ℕ, zero, suc, ◌+◌, ◌<◌, Bool, true, false, ◌&&◌, ◌||◌, cond, List, [], ◌∷◌, ◌++◌, drop, length, take, get_or, replicate, refl, sym, subst, ap, ◌∙◌, arith, inl, inr}
use Rattle.std.specs.Prelude.{◌==◌}
use Rattle.std.specs.List.{flat_map, list_all, range_with_len}
use Rattle.std.proofs.Math.Bool.{or_assoc}
use Rattle.std.proofs.lemmas.Bool.{cases_eq, cases_lt, eq-eqb, ne_eqb}
use Rattle.std.proofs.lemmas.Grind.{flat_map-append}
use Rattle.std.proofs.lemmas.List.{append-nil, get_or-replicate, get_or-set_other, get_or-set_same, length-set, map-append, take_more}
use Rattle.std.proofs.lemmas.List.{length-replicate, take-append-le, take_all}
use Rattle.std.proofs.lemmas.List.Folds.{list_any-append}
use Rattle.std.proofs.Math.ListN.{get_or-eq_default}
use Rattle.fm_base.specs.Resolution.{Has}
use Rattle.fm_bank.specs.Subterms.{is_found as has}
use Rattle.fm_rounds.specs.Rounds.{reached_by}
use Rattle.fm_rounds.proofs.Members.{in_either, in_filter, in_range}
use Rattle.fm_build.specs.Marks.{AreBelow, AreMarked, MarksMore, is_marked, is_new_by, new_by}
use Rattle.fm_build.specs.Reached.{AreInstancesBelow, IsInstanceBelow, pair_of, pairs_of, reached_in}
use Rattle.fm_build.specs.declared.instance.Instance.{Instance}

or_none : (b : Bool) → (b || false) ≡ b
or_none true = refl
or_none false = refl

or_true : (b : Bool) → (b || true) ≡ true
or_true true = refl
or_true false = refl

absorbed : (a b : Bool) → (a || (a || b)) ≡ (a || b)
absorbed true b = refl
absorbed false b = refl

pub has_more : (xs ys : List ℕ) (n : ℕ) → has (xs ++ ys) n ≡ (has xs n || has ys n)
has_more xs ys n = list_any-append (λ m. n == m) xs ys

one_mark : (now : List Bool) (t n : ℕ) → t < length now → is_marked (set now t true) n ≡ (is_marked now n || ((n == t) || false))
one_mark now t n lt = elim (cases_eq n t) [
  | inl same ↦ ap (λ i. get_or (set now t true) i false) same ∙ get_or-set_same now t true false lt ∙ sym (ap (λ b. is_marked now n || (b || false)) (eq-eqb n t same) ∙ or_true (is_marked now n))
  | inr other ↦ get_or-set_other now t n true false other ∙ sym (ap (λ b. is_marked now n || (b || false)) (ne_eqb n t other) ∙ or_none (is_marked now n))
]

pub marks_none : (old : List Bool) → MarksMore old [] old
marks_none old = record { room = refl; marks = λ n lt. sym (or_none (is_marked old n)) }

pub marks_one : (now : List Bool) (t : ℕ) → t < length now → MarksMore now (t ∷ []) (set now t true)
marks_one now t lt = record { room = length-set now t true; marks = λ n less. one_mark now t n lt }

pub marks_both : (old now new : List Bool) (xs ys : List ℕ) → MarksMore old xs now → MarksMore now ys new → MarksMore old (xs ++ ys) new
marks_both old now new xs ys a b = record {
  room = b.room ∙ a.room;
  marks = λ n lt. b.marks n (omega (arith, lt, a.room)) ∙ ap (λ m. m || has ys n) (a.marks n lt) ∙ or_assoc (is_marked old n) (has xs n) (has ys n) ∙ ap (λ m. is_marked old n || m) (sym (has_more xs ys n));
}

pub mark_more : (old now : List Bool) (terms : List ℕ) (i : ℕ) → MarksMore old (take i terms) now → i < length terms → get_or terms i 0 < length now → MarksMore old (take (i + 1) terms) (set now (get_or terms i 0) true)
mark_more old now terms i h lt less =
    let t = get_or terms i 0 in
    subst (λ ts. MarksMore old ts (set now t true)) (sym (take_more terms i 0 lt)) (marks_both old now (set now t true) (take i terms) (t ∷ []) h (marks_one now t less))

pub none_marked : (count n : ℕ) → is_marked (replicate count false) n ≡ false
none_marked count n = elim (cases_lt n count) [
  | inl low ↦ get_or-replicate count n false false low
  | inr high ↦ get_or-eq_default (replicate count false) false (omega (arith, high, length-replicate count false))
]

-- the instances, one after the other
pub reach_more : (chosen old now new : List Bool) (added : List Instance) (i : ℕ) (x : Instance) → i < length added → x ≡ get_or added i x
    → MarksMore old (flat_map (reached_in chosen) (pairs_of (take i added))) now → MarksMore now (reached_in chosen (pair_of x)) new
    → MarksMore old (flat_map (reached_in chosen) (pairs_of (take (i + 1) added))) new
reach_more chosen old now new added i x lt e a b =
    let f = reached_in chosen in
    let before = pairs_of (take i added) in
    let more : take (i + 1) added ≡ take i added ++ x ∷ [] = take_more added i x lt ∙ ap (λ (y : Instance). take i added ++ y ∷ []) (sym e) in
    let flat : flat_map f (pairs_of (take (i + 1) added)) ≡ flat_map f before ++ f (pair_of x) =
    ap (λ (ys : List Instance). flat_map f (pairs_of ys)) more ∙ ap (flat_map f) (map-append pair_of (take i added) (x ∷ [])) ∙ flat_map-append f before (pair_of x ∷ []) ∙ ap (λ l. flat_map f before ++ l) (append-nil (f (pair_of x))) in
    subst (λ ts. MarksMore old ts new) (sym flat) (marks_both old now new (flat_map f before) (f (pair_of x)) a b)

pub instance_at : (n : ℕ) (added : List Instance) (i : ℕ) (x : Instance) → AreInstancesBelow n added → i < length added → x ≡ get_or added i x → IsInstanceBelow n x
instance_at n [] i x h lt e = absurd (omega (arith, lt))
instance_at n (y ∷ ys) zero x (one, h) lt e = subst (λ (z : Instance). IsInstanceBelow n z) (sym e) one
instance_at n (y ∷ ys) (suc i) x (one, h) lt e = instance_at n ys i x h (omega (arith, lt)) e

pub when_chosen : (chosen : List Bool) (x : Instance) (b : Bool) → list_all (is_marked chosen) x.subst.items ≡ b → reached_in chosen (pair_of x) ≡ cond b x.terms.items []
when_chosen chosen x b e = ap (λ b. cond b x.terms.items []) e

-- below a bound, by members
pub below_has : (ks : List ℕ) (n k : ℕ) → AreBelow ks n → Has ks k → k < n
below_has [] n k h i = absurd i
below_has (x ∷ xs) n k (one, h) (inl e) = subst (λ j. j < n) e one
below_has (x ∷ xs) n k (one, h) (inr i) = below_has xs n k h i

has_below : (ks : List ℕ) (n : ℕ) → ((k : ℕ) → Has ks k → k < n) → AreBelow ks n
has_below [] n h = tt
has_below (x ∷ xs) n h = (h x (inl refl), has_below xs n (λ k i. h k (inr i)))

pub below_grown : (class : List ℕ) (marks : List Bool) (reps : List ℕ) (n : ℕ) → AreBelow reps n → AreBelow (reps ++ new_by class marks reps n) n
below_grown class marks reps n h = has_below (reps ++ new_by class marks reps n) n (λ k i. elim (in_either k reps (new_by class marks reps n) i) [
  | inl old ↦ below_has reps n k h old
  | inr new ↦ let r = in_range k 0 n (in_filter (is_new_by class marks reps) k (range_with_len 0 n) new).0 in omega (arith, r.1)
])

-- chosen terms are the representatives
pub chosen_more : (old new : List Bool) (count : ℕ) (reps more : List ℕ) → AreMarked old count reps → MarksMore old (reps ++ more) new → AreMarked new count (reps ++ more)
chosen_more old new count reps more a b = record {
  room = b.room ∙ a.room;
  each = λ n lt.
      b.marks n (omega (arith, lt, a.room)) ∙ ap (λ m. m || has (reps ++ more) n) (a.each n lt) ∙ ap (λ m. has reps n || m) (has_more reps more n) ∙ absorbed (has reps n) (has more n) ∙ sym (has_more reps more n);
}

all_chosen : (chosen : List Bool) (count : ℕ) (reps ns : List ℕ) → AreMarked chosen count reps → AreBelow ns count → list_all (is_marked chosen) ns ≡ list_all (has reps) ns
all_chosen chosen count reps [] a h = refl
all_chosen chosen count reps (n ∷ ns) a (one, h) = let here = a.each n one in let rest = all_chosen chosen count reps ns a h in λ i. here i && rest i

pub all_reached : (chosen : List Bool) (count : ℕ) (reps : List ℕ) (added : List Instance) → AreMarked chosen count reps → AreInstancesBelow count added → flat_map (reached_in chosen) (pairs_of added) ≡ flat_map (reached_by reps) (pairs_of added)
all_reached chosen count reps [] a h = refl
all_reached chosen count reps (x ∷ xs) a (one, h) =
    let here = all_chosen chosen count reps x.subst.items a one.subst in
    let rest = all_reached chosen count reps xs a h in
    λ i. cond (here i) x.terms.items [] ++ rest i

-- a list written back over one of its length
pub refilled : (n : ℕ) (ws old : List Bool) → length ws ≡ n → take n (ws ++ drop (length ws) old) ≡ ws
refilled n ws old e = take-append-le n ws (drop (length ws) old) (omega (arith, e)) ∙ take_all n ws (omega (arith, e))
