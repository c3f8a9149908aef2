-- The lists of representatives and of elements are a content's.
use Rattle.std.proofs.Common.{◌≡◌, ℕ, zero, suc, ◌+◌, ◌<◌, Bool, true, false, cond, List, [], ◌∷◌, ◌++◌, length, map, take, get_or, refl, sym, ap, ◌∙◌, arith}
use Rattle.std.specs.List.{filter, range_with_len}
use Rattle.std.proofs.lemmas.List.{append-nil, map-append, take_more}
use Rattle.fm_base.specs.declared.signature.Ty.{Ty}
use Rattle.fm_bank.specs.Terms.{is_type, type_of}
use Rattle.fm_rounds.specs.Rounds.{Content, reached, representatives, reps_of}
use Rattle.fm_build.specs.Elements.{Types, all_reps_by, is_of_sort, reps_by}

cond_append : (x : ℕ) (xs : List ℕ) (b : Bool) → xs ++ cond b (x ∷ []) [] ≡ cond b (xs ++ x ∷ []) xs
cond_append x xs true = refl
cond_append x xs false = append-nil xs

cond_behind : (x : ℕ) (xs ys : List ℕ) (b : Bool) → cond b (x ∷ (xs ++ ys)) (xs ++ ys) ≡ cond b (x ∷ xs) xs ++ ys
cond_behind x xs ys true = refl
cond_behind x xs ys false = refl

pub filter_append : (p : ℕ → Bool) (xs ys : List ℕ) → filter p (xs ++ ys) ≡ filter p xs ++ filter p ys
filter_append p [] ys = refl
filter_append p (x ∷ xs) ys = ap (λ l. cond (p x) (x ∷ l) l) (filter_append p xs ys) ∙ cond_behind x (filter p xs) (filter p ys) (p x)

pub filter_next : (p : ℕ → Bool) (xs : List ℕ) (i : ℕ) (b : Bool) → i < length xs → p (get_or xs i 0) ≡ b → filter p (take (i + 1) xs) ≡ cond b (filter p (take i xs) ++ get_or xs i 0 ∷ []) (filter p (take i xs))
filter_next p xs i b lt e =
    let x = get_or xs i 0 in
    ap (filter p) (take_more xs i 0 lt) ∙ filter_append p (take i xs) (x ∷ []) ∙ ap (λ c. filter p (take i xs) ++ cond c (x ∷ []) []) e ∙ cond_append x (filter p (take i xs)) b

pub range_next : (n : ℕ) → range_with_len 0 (n + 1) ≡ range_with_len 0 n ++ n ∷ []
range_next n = let same : suc n ≡ n + 1 = omega arith in ap (range_with_len 0) (sym same) ∙ more 0 n ∙ ap (λ i. range_with_len 0 n ++ i ∷ []) (zero_plus n)
  where
    zero_plus : (n : ℕ) → 0 + n ≡ n
    zero_plus n = omega arith

    more : (a n : ℕ) → range_with_len a (suc n) ≡ range_with_len a n ++ (a + n) ∷ []
    more a zero = let e : a ≡ a + 0 = omega arith in ap (λ i. i ∷ []) e
    more a (suc n) = let e : a + 1 + n ≡ a + suc n = omega arith in ap (λ l. a ∷ l) (more (a + 1) n ∙ ap (λ i. range_with_len (a + 1) n ++ i ∷ []) e)

pub map_next : {X : Type 0} (f : ℕ → X) (n : ℕ) → map f (range_with_len 0 (n + 1)) ≡ map f (range_with_len 0 n) ++ f n ∷ []
map_next f n = ap (map f) (range_next n) ∙ map-append f (range_with_len 0 n) (n ∷ [])

filter_same : (p q : ℕ → Bool) (xs : List ℕ) → ((x : ℕ) → p x ≡ q x) → filter p xs ≡ filter q xs
filter_same p q [] h = refl
filter_same p q (x ∷ xs) h = let one = h x in let rest = filter_same p q xs h in λ i. cond (one i) (x ∷ rest i) (rest i)

map_same : {X : Type 0} (f g : ℕ → X) (xs : List ℕ) → ((x : ℕ) → f x ≡ g x) → map f xs ≡ map g xs
map_same f g [] h = refl
map_same f g (x ∷ xs) h = let one = h x in let rest = map_same f g xs h in λ i. one i ∷ rest i

-- by type and by sort the representatives are a content's
pub reps_are : (c : Content) (types : List Ty) (holds : List Bool) (reps : List ℕ) → Types types holds c → reps ≡ (reached c).reps → (s : ℕ) → reps_by types reps s ≡ reps_of c s
reps_are c types holds reps t e s =
    filter_same (is_of_sort types (record { 0 = s })) (λ n. is_type (type_of c.sig c.terms n) (Ty.Of (record { 0 = s }))) reps (λ n. ap (λ o. is_type o (Ty.Of (record { 0 = s }))) (sym (t.types_are n)))
    ∙ ap (filter (λ n. is_type (type_of c.sig c.terms n) (Ty.Of (record { 0 = s })))) e

pub all_reps_are : (c : Content) (types : List Ty) (holds : List Bool) (reps : List ℕ) → Types types holds c → reps ≡ (reached c).reps → all_reps_by types reps c.sig.sorts ≡ representatives c
all_reps_are c types holds reps t e = map_same (reps_by types reps) (reps_of c) (range_with_len 0 c.sig.sorts) (reps_are c types holds reps t e)
