-- One more entry in a level, as the fronts of the levels have it.
use Rattle.std.proofs.Common.{◌≡◌, ℕ, zero, suc, ◌-◌, ◌<◌, ◌≤◌, Bool, true, false, cond, List, [], ◌∷◌, ◌++◌, length, take, replicate, ap, refl, sym, subst, ◌∙◌, arith, append_assoc}
use Rattle.std.specs.Prelude.{min, nat_le, nat_lt}
use Rattle.std.specs.List.{AllByRecursion}
use Rattle.std.proofs.lemmas.Bool.{false≢true, leb-false, leb-true, ltb-false, ltb-true}
use Rattle.std.proofs.lemmas.List.{append-nil}
use Rattle.fm_levels.specs.Levels.{in_first, in_newest, joined, put}
use Rattle.fm_elab.specs.SortLaw.{IsLow}
use Rattle.fm_elab.specs.Stacks.{fewer_levels, more_levels}

-- whether the first k of n levels have the entry that is put in
abbrev pub reaches : Bool → ℕ → ℕ → Bool
reaches first k n = cond first (nat_lt 0 k) (nat_le n k)

reached_first : {A : Type 0} (k : ℕ) (ls : List (List A)) (x : A) → nat_lt 0 k ≡ true → take k (in_first ls x) ≡ in_first (take k ls) x
reached_first zero ls x e = let m = ltb-true 0 0 e in absurd (omega (arith, m))
reached_first (suc k) [] x e = refl
reached_first (suc k) (l ∷ ls) x e = refl

kept_first : {A : Type 0} (k : ℕ) (ls : List (List A)) (x : A) → nat_lt 0 k ≡ false → take k (in_first ls x) ≡ take k ls
kept_first zero ls x e = refl
kept_first (suc k) ls x e = let m = ltb-false 0 (suc k) e in absurd (omega (arith, m))

all_levels : {A : Type 0} (k : ℕ) (ls : List A) → length ls ≤ k → take k ls ≡ ls
all_levels zero [] h = refl
all_levels zero (l ∷ ls) h = absurd (omega (arith, h))
all_levels (suc k) [] h = refl
all_levels (suc k) (l ∷ ls) h = ap (λ (m : List _). l ∷ m) (all_levels k ls (omega (arith, h)))

newest_long : {A : Type 0} (ls : List (List A)) (x : A) → length (in_newest ls x) ≡ length ls
newest_long [] x = refl
newest_long (l ∷ []) x = refl
newest_long (l ∷ m ∷ ls) x = ap suc (newest_long (m ∷ ls) x)

reached_newest : {A : Type 0} (k : ℕ) (ls : List (List A)) (x : A) → length ls ≤ k → take k (in_newest ls x) ≡ in_newest (take k ls) x
reached_newest {A = A} k ls x h =
    let long = newest_long ls x in
    all_levels k (in_newest ls x) (omega (arith, h, long)) ∙ ap (λ (m : List (List A)). in_newest m x) (sym (all_levels k ls h))

kept_newest : {A : Type 0} (k : ℕ) (ls : List (List A)) (x : A) → k < length ls → take k (in_newest ls x) ≡ take k ls
kept_newest k [] x h = absurd (omega (arith, h))
kept_newest zero (l ∷ []) x h = refl
kept_newest (suc k) (l ∷ []) x h = absurd (omega (arith, h))
kept_newest zero (l ∷ m ∷ ls) x h = refl
kept_newest {A = A} (suc k) (l ∷ m ∷ ls) x h = ap (λ (rest : List (List A)). l ∷ rest) (kept_newest k (m ∷ ls) x (omega (arith, h)))

not_all : (n k : ℕ) → nat_le n k ≡ false → k < n
not_all n k e = leb-false n k e

are_all : (n k : ℕ) → nat_le n k ≡ true → n ≤ k
are_all n k e = leb-true n k e

pub put_reached : {A : Type 0} (first : Bool) (k : ℕ) (ls : List (List A)) (x : A) → reaches first k (length ls) ≡ true → take k (put first ls x) ≡ put first (take k ls) x
put_reached true k ls x e = reached_first k ls x e
put_reached false k ls x e = reached_newest k ls x (are_all (length ls) k e)

pub put_kept : {A : Type 0} (first : Bool) (k : ℕ) (ls : List (List A)) (x : A) → reaches first k (length ls) ≡ false → take k (put first ls x) ≡ take k ls
put_kept true k ls x e = kept_first k ls x e
put_kept false k ls x e = kept_newest k ls x (not_all (length ls) k e)

-- what holds of all entries

pub all_in_both : {A : Type 0} (P : A → Type 0) (xs ys : List A) → AllByRecursion P xs → AllByRecursion P ys → AllByRecursion P (xs ++ ys)
all_in_both P [] ys a b = b
all_in_both P (x ∷ xs) ys a b = (a.0, all_in_both P xs ys a.1 b)

pub all_in_front : {A : Type 0} (P : A → Type 0) (xs ys : List A) → AllByRecursion P (xs ++ ys) → AllByRecursion P xs
all_in_front P [] ys a = tt
all_in_front P (x ∷ xs) ys a = (a.0, all_in_front P xs ys a.1)

pub all_behind : {A : Type 0} (P : A → Type 0) (xs ys : List A) → AllByRecursion P (xs ++ ys) → AllByRecursion P ys
all_behind P [] ys a = a
all_behind P (x ∷ xs) ys a = all_behind P xs ys a.1

pub all_mapped : {A : Type 0} (P Q : A → Type 0) (xs : List A) → ((x : A) → P x → Q x) → AllByRecursion P xs → AllByRecursion Q xs
all_mapped P Q [] f a = tt
all_mapped P Q (x ∷ xs) f a = (f x a.0, all_mapped P Q xs f a.1)

all_first : {A : Type 0} (P : A → Type 0) (ls : List (List A)) (x : A) → AllByRecursion P (joined ls) → P x → AllByRecursion P (joined (in_first ls x))
all_first P [] x a p = tt
all_first P (l ∷ ls) x a p = all_in_both P (l ++ x ∷ []) (joined ls) (all_in_both P l (x ∷ []) (all_in_front P l (joined ls) a) (p, tt)) (all_behind P l (joined ls) a)

all_newest : {A : Type 0} (P : A → Type 0) (ls : List (List A)) (x : A) → AllByRecursion P (joined ls) → P x → AllByRecursion P (joined (in_newest ls x))
all_newest P [] x a p = tt
all_newest P (l ∷ []) x a p = all_in_both P (l ++ x ∷ []) [] (all_in_both P l (x ∷ []) (all_in_front P l [] a) (p, tt)) tt
all_newest P (l ∷ m ∷ ls) x a p = all_in_both P l (joined (in_newest (m ∷ ls) x)) (all_in_front P l (joined (m ∷ ls)) a) (all_newest P (m ∷ ls) x (all_behind P l (joined (m ∷ ls)) a) p)

pub all_put : {A : Type 0} (P : A → Type 0) (first : Bool) (ls : List (List A)) (x : A) → AllByRecursion P (joined ls) → P x → AllByRecursion P (joined (put first ls x))
all_put P true ls x a p = all_first P ls x a p
all_put P false ls x a p = all_newest P ls x a p

put_by : {A : Type 0} (P : A → Type 0) (first : Bool) (k : ℕ) (ls : List (List A)) (x : A) (b : Bool) → reaches first k (length ls) ≡ b → AllByRecursion P (joined (take k ls)) → (b ≡ true → P x) → AllByRecursion P (joined (take k (put first ls x)))
put_by {A = A} P first k ls x true e a p = subst (λ (m : List (List A)). AllByRecursion P (joined m)) (sym (put_reached first k ls x e)) (all_put P first (take k ls) x a (p refl))
put_by {A = A} P first k ls x false e a p = subst (λ (m : List (List A)). AllByRecursion P (joined m)) (sym (put_kept first k ls x e)) a

-- all entries of a front, and the new one where the front has it
pub all_with : {A : Type 0} (P : A → Type 0) (first : Bool) (k n : ℕ) (ls : List (List A)) (x : A) → length ls ≡ n → AllByRecursion P (joined (take k ls)) → (reaches first k n ≡ true → P x) → AllByRecursion P (joined (take k (put first ls x)))
all_with P first k n ls x l a p = put_by P first k ls x (reaches first k (length ls)) refl a (λ e. p (ap (reaches first k) (sym l) ∙ e))

-- entries in the order in which they were put in

joined_newest : {A : Type 0} (l : List A) (ls : List (List A)) (x : A) → joined (in_newest (l ∷ ls) x) ≡ joined (l ∷ ls) ++ x ∷ []
joined_newest {A = A} l [] x = append-nil (l ++ x ∷ []) ∙ ap (λ (m : List A). m ++ x ∷ []) (sym (append-nil l))
joined_newest {A = A} l (m ∷ ls) x = ap (λ (k : List A). l ++ k) (joined_newest m ls x) ∙ sym (append_assoc l (joined (m ∷ ls)) (x ∷ []))

nothing_above : {A : Type 0} (ls : List (List A)) → AllByRecursion (λ (k : List A). k ≡ []) ls → joined ls ≡ []
nothing_above [] a = refl
nothing_above {A = A} (l ∷ ls) a = ap (λ (k : List A). k ++ joined ls) a.0 ∙ nothing_above ls a.1

joined_first : {A : Type 0} (l : List A) (ls : List (List A)) (x : A) → AllByRecursion (λ (k : List A). k ≡ []) ls → joined (in_first (l ∷ ls) x) ≡ joined (l ∷ ls) ++ x ∷ []
joined_first {A = A} l ls x a =
    ap (λ (k : List A). (l ++ x ∷ []) ++ k) (nothing_above ls a) ∙ append-nil (l ++ x ∷ [])
    ∙ ap (λ (m : List A). m ++ x ∷ []) (sym (ap (λ (k : List A). l ++ k) (nothing_above ls a) ∙ append-nil l))

joined_put : {A : Type 0} (first : Bool) (ls : List (List A)) (x : A) → 0 < length ls → (first ≡ true → IsLow ls) → joined (put first ls x) ≡ joined ls ++ x ∷ []
joined_put first [] x h w = absurd (omega (arith, h))
joined_put true (l ∷ ls) x h w = joined_first l ls x (w refl)
joined_put false (l ∷ ls) x h w = joined_newest l ls x

low_taken : {A : Type 0} (k : ℕ) (ls : List (List A)) → AllByRecursion (λ (l : List A). l ≡ []) ls → AllByRecursion (λ (l : List A). l ≡ []) (take k ls)
low_taken zero ls a = tt
low_taken (suc k) [] a = tt
low_taken (suc k) (l ∷ ls) a = (a.0, low_taken k ls a.1)

low_front : {A : Type 0} (k : ℕ) (ls : List (List A)) → IsLow ls → IsLow (take k ls)
low_front zero ls a = tt
low_front (suc k) [] a = tt
low_front (suc k) (l ∷ ls) a = low_taken k ls a

pub some_front : {A : Type 0} (first : Bool) (k : ℕ) (ls : List A) → 0 < length ls → reaches first k (length ls) ≡ true → 0 < length (take k ls)
some_front first k [] h e = absurd (omega (arith, h))
some_front true zero (l ∷ ls) h e = let m = ltb-true 0 0 e in absurd (omega (arith, m))
some_front false zero (l ∷ ls) h e = let m = leb-true (length (l ∷ ls)) 0 e in absurd (omega (arith, m))
some_front first (suc k) (l ∷ ls) h e = omega arith

-- where the front has the new entry, it is the last
pub last_there : {A : Type 0} (first : Bool) (k : ℕ) (ls : List (List A)) (x : A) → 0 < length ls → (first ≡ true → IsLow ls) → reaches first k (length ls) ≡ true → joined (take k (put first ls x)) ≡ joined (take k ls) ++ x ∷ []
last_there first k ls x h w e = ap joined (put_reached first k ls x e) ∙ joined_put first (take k ls) x (some_front first k ls h e) (λ f. low_front k ls (w f))

-- and then it has all that was declared
low_all : {A : Type 0} (k : ℕ) (ls : List (List A)) → nat_lt 0 k ≡ true → IsLow ls → joined (take k ls) ≡ joined ls
low_all zero ls e w = let m = ltb-true 0 0 e in absurd (omega (arith, m))
low_all (suc k) [] e w = refl
low_all {A = A} (suc k) (l ∷ ls) e w = ap (λ (m : List A). l ++ m) (nothing_above (take k ls) (low_taken k ls w) ∙ sym (nothing_above ls w))

pub all_there : {A : Type 0} (first : Bool) (k : ℕ) (ls : List (List A)) → (first ≡ true → IsLow ls) → reaches first k (length ls) ≡ true → joined (take k ls) ≡ joined ls
all_there true k ls w e = low_all k ls e (w refl)
all_there false k ls w e = ap joined (all_levels k ls (are_all (length ls) k e))

-- nothing stands above the first level, as before

low_put_first : {A : Type 0} (ls : List (List A)) (x : A) → IsLow ls → IsLow (in_first ls x)
low_put_first [] x w = tt
low_put_first (l ∷ ls) x w = w

pub low_put : {A : Type 0} (first : Bool) (ls : List (List A)) (x : A) → (first ≡ true → IsLow ls) → first ≡ true → IsLow (put first ls x)
low_put true ls x w e = low_put_first ls x (w refl)
low_put false ls x w e = absurd (false≢true e)

all_empty : {A : Type 0} (n : ℕ) (ls : List (List A)) → AllByRecursion (λ (l : List A). l ≡ []) ls → AllByRecursion (λ (l : List A). l ≡ []) (ls ++ replicate n [])
all_empty zero [] a = tt
all_empty (suc n) [] a = (refl, all_empty n [] tt)
all_empty n (l ∷ ls) a = (a.0, all_empty n ls a.1)

pub low_more : {A : Type 0} (n : ℕ) (ls : List (List A)) → 0 < length ls → IsLow ls → IsLow (more_levels n ls)
low_more n [] h w = absurd (omega (arith, h))
low_more n (l ∷ ls) h w = all_empty n ls w

pub low_fewer : {A : Type 0} (n : ℕ) (ls : List (List A)) → IsLow ls → IsLow (fewer_levels n ls)
low_fewer n ls w = low_front (length ls - n) ls w

pub low_single : {A : Type 0} (ls : List (List A)) → length ls ≡ 1 → IsLow ls
low_single [] e = tt
low_single (l ∷ []) e = tt
low_single (l ∷ m ∷ ls) e = absurd (omega (arith, e))

-- levels opened and closed

empty_front : {A : Type 0} (k n : ℕ) → joined (take k (replicate {A = List A} n [])) ≡ []
empty_front zero n = refl
empty_front (suc k) zero = refl
empty_front (suc k) (suc n) = empty_front k n

pub front_of_more : {A : Type 0} (k n : ℕ) (ls : List (List A)) → joined (take k (more_levels n ls)) ≡ joined (take k ls)
front_of_more zero n ls = refl
front_of_more (suc k) n [] = empty_front (suc k) n
front_of_more {A = A} (suc k) n (l ∷ ls) = ap (λ (m : List A). l ++ m) (front_of_more k n ls)

take_twice : {A : Type 0} (k m : ℕ) (ls : List A) → take k (take m ls) ≡ take (min k m) ls
take_twice zero m ls = let least : 0 ≡ min 0 m = omega arith in ap (λ (c : ℕ). take c ls) least
take_twice (suc k) zero ls = let least : 0 ≡ min (suc k) 0 = omega arith in ap (λ (c : ℕ). take c ls) least
take_twice {A = A} (suc k) (suc m) [] = let less : suc (min k m) ≡ min (suc k) (suc m) = omega arith in ap (λ (c : ℕ). take {A = A} c []) less
take_twice {A = A} (suc k) (suc m) (l ∷ ls) =
    let less : suc (min k m) ≡ min (suc k) (suc m) = omega arith in
    ap (λ (r : List A). l ∷ r) (take_twice k m ls) ∙ ap (λ (c : ℕ). take c (l ∷ ls)) less

pub front_of_fewer : {A : Type 0} (k n count : ℕ) (ls : List (List A)) → length ls ≡ count → joined (take k (fewer_levels n ls)) ≡ joined (take (min k (count - n)) ls)
front_of_fewer k n count ls l = ap joined (take_twice k (length ls - n) ls ∙ ap (λ (c : ℕ). take (min k (c - n)) ls) l)

pub front_of_all : {A : Type 0} (n : ℕ) (ls : List (List A)) → length ls ≡ n → joined (take n ls) ≡ joined ls
front_of_all n ls l = ap joined (all_levels n ls (omega (arith, l)))
