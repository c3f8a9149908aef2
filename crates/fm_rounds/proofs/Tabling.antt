-- Tables written from an interpretation fit its signature and read as it does.
use Rattle.std.proofs.Common.{◌≡◌, ℕ, zero, suc, ◌+◌, ◌<◌, Bool, true, false, not, cond, List, [], ◌∷◌, ◌++◌, map, Option, Some, None, refl, sym, ap, ◌∙◌, arith}
use Rattle.std.specs.Prelude.{◌==◌, nat_lt}
use Rattle.std.specs.Cmp.Lexicographic.{bytes_decides}
use Rattle.std.specs.Str.{bytes_eq}
use Rattle.std.specs.List.{filter, find, list_all}
use Rattle.std.proofs.lemmas.Bool.{and_parts, and_from, eqb-true, false≢true, ltb-true}
use Rattle.fm_base.specs.Interpretations.{Reading, ascends, ascends_after, entry_in, is_tuple, values_of}
use Rattle.fm_base.specs.declared.signature.Ty.{Ty}
use Rattle.fm_rounds.specs.Tuples.{from_first, precedes, table_of, tuples}
use Rattle.fm_rounds.proofs.LeastTuple.{Below, IsAnswer, first_tuple_is}
use Rattle.fm_rounds.proofs.Orders.{lesser_first, same_first}

abbrev Exception : Type 0
Exception = List ℕ × ℕ

-- the tuples at which a function isn't 0, with their values
abbrev pub entries : (List ℕ → ℕ) → List (List ℕ) → List Exception
entries f xss = filter (λ (e : Exception). not (e.1 == 0)) (map (λ xs. (xs, f xs)) xss)

-- strictly ascending, each before all behind it
abbrev pub Rising : List (List ℕ) → Type 0
Rising [] = Unit {0}
Rising (x ∷ xs) = (list_all (precedes x) xs ≡ true) × Rising xs

pub all_append : {X : Type 0} (p : X → Bool) (xs ys : List X) → list_all p xs ≡ true → list_all p ys ≡ true → list_all p (xs ++ ys) ≡ true
all_append p [] ys e h = h
all_append p (x ∷ xs) ys e h = let q = and_parts (p x) (list_all p xs) e in and_from (p x) (list_all p (xs ++ ys)) q.0 (all_append p xs ys q.1 h)

map_all : (a : ℕ) (x : List ℕ) (xs : List (List ℕ)) → list_all (precedes x) xs ≡ true → list_all (precedes (a ∷ x)) (map (λ ys. a ∷ ys) xs) ≡ true
map_all a x [] e = refl
map_all a x (y ∷ xs) e = let q = and_parts (precedes x y) (list_all (precedes x) xs) e in and_from (precedes (a ∷ x) (a ∷ y)) (list_all (precedes (a ∷ x)) (map (λ ys. a ∷ ys) xs)) (same_first a x y ∙ q.0) (map_all a x xs q.1)

map_behind : (a b : ℕ) (x : List ℕ) (xs : List (List ℕ)) → a < b → list_all (precedes (a ∷ x)) (map (λ ys. b ∷ ys) xs) ≡ true
map_behind a b x [] lt = refl
map_behind a b x (y ∷ xs) lt = and_from (precedes (a ∷ x) (b ∷ y)) (list_all (precedes (a ∷ x)) (map (λ ys. b ∷ ys) xs)) (lesser_first a b x y lt) (map_behind a b x xs lt)

rising_append : (xs ys : List (List ℕ)) → Rising xs → Rising ys → list_all (λ x. list_all (precedes x) ys) xs ≡ true → Rising (xs ++ ys)
rising_append [] ys hx hy e = hy
rising_append (x ∷ xs) ys (one, hx) hy e =
    let p = and_parts (list_all (precedes x) ys) (list_all (λ x. list_all (precedes x) ys) xs) e in
    (all_append (precedes x) xs ys one p.0, rising_append xs ys hx hy p.1)

rising_map : (a : ℕ) (xs : List (List ℕ)) → Rising xs → Rising (map (λ ys. a ∷ ys) xs)
rising_map a [] h = tt
rising_map a (x ∷ xs) (one, h) = (map_all a x xs one, rising_map a xs h)

behind_first : (a b k : ℕ) (ns xs : List ℕ) → a < b → list_all (precedes (a ∷ xs)) (from_first ns b k) ≡ true
behind_first a b zero ns xs lt = refl
behind_first a b (suc k) ns xs lt = all_append (precedes (a ∷ xs)) (map (λ ys. b ∷ ys) (tuples ns)) (from_first ns (b + 1) k) (map_behind a b xs (tuples ns) lt) (behind_first a (b + 1) k ns xs (omega (arith, lt)))

all_behind : (a b k : ℕ) (ns : List ℕ) (xss : List (List ℕ)) → a < b → list_all (λ x. list_all (precedes x) (from_first ns b k)) (map (λ ys. a ∷ ys) xss) ≡ true
all_behind a b k ns [] lt = refl
all_behind a b k ns (xs ∷ xss) lt = and_from (list_all (precedes (a ∷ xs)) (from_first ns b k)) _ (behind_first a b k ns xs lt) (all_behind a b k ns xss lt)

first_rising : (ns : List ℕ) (a k : ℕ) → Rising (tuples ns) → Rising (from_first ns a k)
first_rising ns a zero h = tt
first_rising ns a (suc k) h = rising_append (map (λ ys. a ∷ ys) (tuples ns)) (from_first ns (a + 1) k) (rising_map a (tuples ns) h) (first_rising ns (a + 1) k h) (all_behind a (a + 1) k ns (tuples ns) (omega arith))

pub tuples_rise : (ns : List ℕ) → Rising (tuples ns)
tuples_rise [] = (refl, tt)
tuples_rise (n ∷ ns) = first_rising ns 0 n (tuples_rise ns)

kept_after : (f : List ℕ → ℕ) (x y : List ℕ) (xs : List (List ℕ)) (b : Bool) → precedes x y ≡ true → ascends_after y (entries f xs) ≡ true → ascends_after x (entries f xs) ≡ true → ascends_after x (cond b ((y, f y) ∷ entries f xs) (entries f xs)) ≡ true
kept_after f x y xs true e h g = and_from (precedes x y) (ascends_after y (entries f xs)) e h
kept_after f x y xs false e h g = g

after_entries : (f : List ℕ → ℕ) (x : List ℕ) (xs : List (List ℕ)) → list_all (precedes x) xs ≡ true → Rising xs → ascends_after x (entries f xs) ≡ true
after_entries f x [] e h = refl
after_entries f x (y ∷ xs) e (one, h) =
    let p = and_parts (precedes x y) (list_all (precedes x) xs) e in
    kept_after f x y xs (not (f y == 0)) p.0 (after_entries f y xs one h) (after_entries f x xs p.1 h)

kept_ascends : (f : List ℕ → ℕ) (y : List ℕ) (xs : List (List ℕ)) (b : Bool) → ascends_after y (entries f xs) ≡ true → ascends (entries f xs) ≡ true → ascends (cond b ((y, f y) ∷ entries f xs) (entries f xs)) ≡ true
kept_ascends f y xs true h g = h
kept_ascends f y xs false h g = g

pub entries_ascend : (f : List ℕ → ℕ) (xs : List (List ℕ)) → Rising xs → ascends (entries f xs) ≡ true
entries_ascend f [] h = refl
entries_ascend f (y ∷ xs) (one, h) = kept_ascends f y xs (not (f y == 0)) (after_entries f y xs one h) (entries_ascend f xs h)

-- a tuple has the entry of the function
abbrev at_found : (List ℕ → ℕ) → Option (List ℕ) → ℕ
at_found f None = 0
at_found f (Some xs) = f xs

zero_step : (f : List ℕ → ℕ) (xs y : List ℕ) (o : Option (List ℕ)) (b : Bool) → bytes_eq y xs ≡ b → f xs ≡ 0 → at_found f o ≡ 0 → at_found f (cond b (Some y) o) ≡ 0
zero_step f xs y o true s e h = ap f ((bytes_decides y xs).0 s) ∙ e
zero_step f xs y o false s e h = h

zero_found : (f : List ℕ → ℕ) (xs : List ℕ) (xss : List (List ℕ)) → f xs ≡ 0 → at_found f (find (λ ys. bytes_eq ys xs) xss) ≡ 0
zero_found f xs [] e = refl
zero_found f xs (y ∷ xss) e = zero_step f xs y (find (λ ys. bytes_eq ys xs) xss) (bytes_eq y xs) refl e (zero_found f xs xss e)

entry_step : (f : List ℕ → ℕ) (xs y : List ℕ) (xss : List (List ℕ)) (b d : Bool) → (f y == 0) ≡ b → bytes_eq y xs ≡ d → entry_in 0 (entries f xss) xs ≡ at_found f (find (λ ys. bytes_eq ys xs) xss)
    → entry_in 0 (cond (not b) ((y, f y) ∷ entries f xss) (entries f xss)) xs ≡ at_found f (cond d (Some y) (find (λ ys. bytes_eq ys xs) xss))
entry_step f xs y xss true true e s h =
    let same : y ≡ xs = (bytes_decides y xs).0 s in
    let none : f y ≡ 0 = eqb-true (f y) 0 e in
    h ∙ zero_found f xs xss (ap f (sym same) ∙ none) ∙ sym none
entry_step f xs y xss true false e s h = h
entry_step f xs y xss false true e s h = ap (λ c. cond c (f y) (entry_in 0 (entries f xss) xs)) s
entry_step f xs y xss false false e s h = ap (λ c. cond c (f y) (entry_in 0 (entries f xss) xs)) s ∙ h

entry_found : (f : List ℕ → ℕ) (xs : List ℕ) (xss : List (List ℕ)) → entry_in 0 (entries f xss) xs ≡ at_found f (find (λ ys. bytes_eq ys xs) xss)
entry_found f xs [] = refl
entry_found f xs (y ∷ xss) = entry_step f xs y xss (f y == 0) (bytes_eq y xs) refl refl (entry_found f xs xss)

answer_at : (f : List ℕ → ℕ) (ns xs : List ℕ) (o : Option (List ℕ)) → IsAnswer (λ ys. bytes_eq ys xs) ns o → Below ns xs → at_found f o ≡ f xs
answer_at f ns xs None h below = absurd (false≢true (sym (h xs below) ∙ (bytes_decides xs xs).1 refl))
answer_at f ns xs (Some ys) (b, e, l) below = ap f ((bytes_decides ys xs).0 e)

pub entry_is : (f : List ℕ → ℕ) (ns xs : List ℕ) → Below ns xs → entry_in 0 (entries f (tuples ns)) xs ≡ f xs
entry_is f ns xs below = entry_found f xs (tuples ns) ∙ answer_at f ns xs (find (λ ys. bytes_eq ys xs) (tuples ns)) (first_tuple_is (λ ys. bytes_eq ys xs) ns) below

pub tuple_below : (m : Reading) (ts : List Ty) (xs : List ℕ) → is_tuple m ts xs ≡ true → Below (map (values_of m) ts) xs
tuple_below m [] [] e = tt
tuple_below m [] (x ∷ xs) e = absurd (false≢true e)
tuple_below m (t ∷ ts) [] e = absurd (false≢true e)
tuple_below m (t ∷ ts) (x ∷ xs) e = let p = and_parts (nat_lt x (values_of m t)) (is_tuple m ts xs) e in (ltb-true x (values_of m t) p.0, tuple_below m ts xs p.1)

nil_tuple : (m : Reading) (xs : List ℕ) → is_tuple m [] xs ≡ true → xs ≡ []
nil_tuple m [] e = refl
nil_tuple m (x ∷ xs) e = absurd (false≢true e)

-- the table of a symbol gives each tuple of its arguments' values what the interpretation does
pub table_reads : (m : Reading) (f : ℕ) (ts : List Ty) (xs : List ℕ) → is_tuple m ts xs ≡ true → entry_in (table_of m f ts).default (table_of m f ts).except xs ≡ m.at f xs
table_reads m f [] xs e = ap (m.at f) (sym (nil_tuple m xs e))
table_reads m f (t ∷ ts) xs e = entry_is (m.at f) (map (values_of m) (t ∷ ts)) xs (tuple_below m (t ∷ ts) xs e)
