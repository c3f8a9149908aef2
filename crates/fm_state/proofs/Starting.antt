-- The terms at the start.
use Rattle.std.proofs.Common.{◌≡◌, ℕ, zero, suc, ◌+◌, ◌-◌, ◌<◌, ◌≤◌, ◌||◌, Bool, true, false, cond, List, [], ◌∷◌, ◌++◌, drop, length, map, Some, refl, sym, ap, ◌∙◌, arith, get_or}
use Rattle.std.specs.List.{filter, list_any, range_with_len}
use Rattle.std.proofs.lemmas.List.{drop_more, length-append, map-append}
use Rattle.std.proofs.lemmas.Option.{slice_get-get_or}
use Rattle.fm_base.specs.declared.signature.Sig.{Sig}
use Rattle.fm_base.specs.declared.signature.Ty.{Ty}
use Rattle.fm_bank.specs.Terms.{Term, is_type, type_in, type_of}
use Rattle.fm_rounds.specs.InstanceTerms.{is_term_of}
use Rattle.fm_state.specs.Begins.{between}

cond_behind : (x : ℕ) (xs ys : List ℕ) (b : Bool) → cond b (x ∷ (xs ++ ys)) (xs ++ ys) ≡ cond b (x ∷ xs) xs ++ ys
cond_behind x xs ys true = refl
cond_behind x xs ys false = refl

filter_append : (p : ℕ → Bool) (xs ys : List ℕ) → filter p (xs ++ ys) ≡ filter p xs ++ filter p ys
filter_append p [] ys = refl
filter_append p (x ∷ xs) ys = ap (λ l. cond (p x) (x ∷ l) l) (filter_append p xs ys) ∙ cond_behind x (filter p xs) (filter p ys) (p x)

range_next : (n : ℕ) → range_with_len 0 (n + 1) ≡ range_with_len 0 n ++ n ∷ []
range_next n = let same : suc n ≡ n + 1 = omega arith in ap (range_with_len 0) (sym same) ∙ more 0 n ∙ ap (λ i. range_with_len 0 n ++ i ∷ []) (zero_plus n)
  where
    zero_plus : (n : ℕ) → 0 + n ≡ n
    zero_plus n = omega arith

    more : (a n : ℕ) → range_with_len a (suc n) ≡ range_with_len a n ++ (a + n) ∷ []
    more a zero = let e : a ≡ a + 0 = omega arith in ap (λ i. i ∷ []) e
    more a (suc n) = let e : a + 1 + n ≡ a + suc n = omega arith in ap (λ l. a ∷ l) (more (a + 1) n ∙ ap (λ i. range_with_len (a + 1) n ++ i ∷ []) e)

any_found : {X : Type 0} (p : X → Bool) (xs : List X) (n : ℕ) (d : X) (b : Bool) → n < length xs → p (get_or xs n d) ≡ b → list_any p (drop n xs) ≡ (b || list_any p (drop (n + 1) xs))
any_found p xs n d b lt e = ap (list_any p) (drop_more xs n d lt) ∙ ap (λ c. c || list_any p (drop (n + 1) xs)) e

-- the term of a number is of the sort, or isn't
is_there : (sig : Sig) (s : ℕ) (terms : List Term) (n : ℕ) (ty : Ty) (b : Bool) → n < length terms → type_of sig terms n ≡ Some ty → b ≡ is_type (Some ty) (Ty.Of (record { 0 = s })) → is_term_of sig s (get_or terms n (record { symbol = 0; args = [] })) ≡ b
is_there sig s terms n ty b lt typed is =
    let t : Term = get_or terms n (record { symbol = 0; args = [] }) in
    let at = slice_get-get_or terms n (record { symbol = 0; args = [] }) lt in
    let same : type_in sig (Some t) ≡ Some ty = ap (type_in sig) (sym at) ∙ typed in
    ap (λ o. is_type o (Ty.Of (record { 0 = s }))) same ∙ sym is

pub term_is_of : (sig : Sig) (s : ℕ) (terms : List Term) (n : ℕ) (ty : Ty) (b : Bool) → n < length terms → type_of sig terms n ≡ Some ty → b ≡ is_type (Some ty) (Ty.Of (record { 0 = s })) → b ≡ true
    → list_any (is_term_of sig s) (drop n terms) ≡ list_any (is_term_of sig s) terms → true ≡ list_any (is_term_of sig s) terms
term_is_of sig s terms n ty b lt typed is e inv = sym (any_found (is_term_of sig s) terms n (record { symbol = 0; args = [] }) true lt (is_there sig s terms n ty b lt typed is ∙ e)) ∙ inv

pub term_is_not_of : (sig : Sig) (s : ℕ) (terms : List Term) (n : ℕ) (ty : Ty) (b : Bool) → n < length terms → type_of sig terms n ≡ Some ty → b ≡ is_type (Some ty) (Ty.Of (record { 0 = s })) → b ≡ false
    → list_any (is_term_of sig s) (drop n terms) ≡ list_any (is_term_of sig s) terms → list_any (is_term_of sig s) (drop (n + 1) terms) ≡ list_any (is_term_of sig s) terms
term_is_not_of sig s terms n ty b lt typed is e inv = sym (any_found (is_term_of sig s) terms n (record { symbol = 0; args = [] }) false lt (is_there sig s terms n ty b lt typed is ∙ e)) ∙ inv

count_next : (n : ℕ) (xs : List ℕ) (b : Bool) → length (xs ++ cond b (n ∷ []) []) ≡ cond b (length xs + 1) (length xs)
count_next n xs true = length-append xs (n ∷ [])
count_next n xs false = let e = length-append xs [] in omega (arith, e)

-- how many numbers pass a test, with one more
pub more_pass : (p : ℕ → Bool) (n : ℕ) (b : Bool) → p n ≡ b → length (filter p (range_with_len 0 (n + 1))) ≡ cond b (length (filter p (range_with_len 0 n)) + 1) (length (filter p (range_with_len 0 n)))
more_pass p n b e =
    ap (λ l. length (filter p l)) (range_next n) ∙ ap (λ l. length l) (filter_append p (range_with_len 0 n) (n ∷ []))
    ∙ ap (λ c. length (filter p (range_with_len 0 n) ++ cond c (n ∷ []) [])) e ∙ count_next n (filter p (range_with_len 0 n)) b

-- the numbers behind some of a range
pub drop_range : (k a n : ℕ) → k ≤ n → drop k (range_with_len a n) ≡ range_with_len (a + k) (n - k)
drop_range zero a n le = let at : a ≡ a + 0 = omega arith in let all : n ≡ n - 0 = omega arith in λ i. range_with_len (at i) (all i)
drop_range (suc k) a zero le = absurd (omega (arith, le))
drop_range (suc k) a (suc n) le =
    let at : a + 1 + k ≡ a + suc k = omega arith in
    let rest : n - k ≡ suc n - suc k = omega (arith, le) in
    drop_range k (a + 1) n (omega (arith, le)) ∙ (λ i. range_with_len (at i) (rest i))

pub between_more : (f all : ℕ) → f < all → between f all ≡ f ∷ between (f + 1) all
between_more f all lt = let more : all - f ≡ suc (all - (f + 1)) = omega (arith, lt) in ap (range_with_len f) more

-- the last of the numbers below an end
pub fresh_between : (all few : ℕ) → between (all - few) all ≡ drop (all - few) (range_with_len 0 all)
fresh_between all few =
    let none : 0 + (all - few) ≡ all - few = omega arith in
    sym (drop_range (all - few) 0 all (omega arith) ∙ ap (λ a. range_with_len a (all - (all - few))) none)

pub map_next : {X : Type 0} (f : ℕ → X) (n : ℕ) → map f (range_with_len 0 (n + 1)) ≡ map f (range_with_len 0 n) ++ f n ∷ []
map_next f n = ap (map f) (range_next n) ∙ map-append f (range_with_len 0 n) (n ∷ [])
