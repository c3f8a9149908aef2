-- Functions in force, level by level, by what their terms mean.
use Rattle.std.proofs.Common.{Bool, true, false, ◌≡◌, ℕ, zero, suc, ◌+◌, ◌-◌, ◌≤◌, List, [], ◌∷◌, ◌++◌, length, take, replicate, ap, refl, sym, subst, ◌∙◌, arith}
use Rattle.std.specs.Prelude.{Option, Some, cond, is_some, ◌||◌}
use Rattle.std.specs.Str.{bytes_eq}
use Rattle.std.proofs.lemmas.List.{map-append, take-map, length-map, take-append-le, length-take-le, length_push}
use Rattle.fm_arena.specs.Meanings.{Term, terms_of}
use Rattle.fm_arena.specs.declared.node.Entry.{Entry}
use Rattle.fm_levels.specs.Levels.{count_first, count_level, count_newest, cut_first, cut_level, cut_newest, in_first, in_newest, joined, put}
use Rattle.fm_levels.specs.Tables.{has, looked_up}
use Rattle.fm_levels.proofs.Leveling.{cut_nothing}
use Rattle.fm_apply.specs.Applied.{Function as TheFunction}
use Rattle.fm_apply.specs.Scoped.{AreInForce, Grows, IsInForce, function_in, functions_in}
use Rattle.fm_apply.specs.declared.entry.Function.{Function}
use Rattle.fm_apply.proofs.Growing.{functions_stay}
use Rattle.fm_elab.specs.Givens.{Extends}
use Rattle.fm_elab.specs.Held.{functions_at}
use Rattle.fm_elab.specs.Stacks.{fewer_levels, is_named, more_levels, put_all}

abbrev Named : Type 0
Named = List ℕ × Function

-- all levels joined

pub joined_at : (es : List Entry) (ls : List (List Named)) → joined (functions_at es ls) ≡ functions_in (terms_of es) (joined ls)
joined_at es [] = refl
joined_at es (l ∷ ls) =
    ap (λ (fs : List TheFunction). functions_in (terms_of es) l ++ fs) (joined_at es ls)
    ∙ sym (map-append (λ (e : Named). function_in (terms_of es) e.0 e.1) l (joined ls))

named_in_list : (ts : List Term) (name : List ℕ) (es : List Named) → is_named name (functions_in ts es) ≡ has name es
named_in_list ts name [] = refl
named_in_list ts name (e ∷ es) = ap (λ (b : Bool). bytes_eq e.0 name || b) (named_in_list ts name es) ∙ chosen (bytes_eq e.0 name) e.1 (looked_up name es)
  where
    chosen : (b : Bool) (f : Function) (o : Option Function) → (b || is_some o) ≡ is_some (cond b (Some f) o)
    chosen true f o = refl
    chosen false f o = refl

pub named_at : (es : List Entry) (name : List ℕ) (ls : List (List Named)) → is_named name (joined (functions_at es ls)) ≡ has name (joined ls)
named_at es name ls = ap (is_named name) (joined_at es ls) ∙ named_in_list (terms_of es) name (joined ls)

-- one more entry

pub first_at : (es : List Entry) (ls : List (List Named)) (e : Named) → functions_at es (in_first ls e) ≡ in_first (functions_at es ls) (function_in (terms_of es) e.0 e.1)
first_at es [] e = refl
first_at es (l ∷ ls) e = ap (λ (fs : List TheFunction). fs ∷ functions_at es ls) (map-append (λ (x : Named). function_in (terms_of es) x.0 x.1) l (e ∷ []))

pub newest_at : (es : List Entry) (ls : List (List Named)) (e : Named) → functions_at es (in_newest ls e) ≡ in_newest (functions_at es ls) (function_in (terms_of es) e.0 e.1)
newest_at es [] e = refl
newest_at es (l ∷ []) e = ap (λ (fs : List TheFunction). fs ∷ []) (map-append (λ (x : Named). function_in (terms_of es) x.0 x.1) l (e ∷ []))
newest_at es (l ∷ k ∷ ls) e = ap (λ (fs : List (List TheFunction)). functions_in (terms_of es) l ∷ fs) (newest_at es (k ∷ ls) e)

pub put_at : (first : Bool) (es : List Entry) (ls : List (List Named)) (e : Named) → functions_at es (put first ls e) ≡ put first (functions_at es ls) (function_in (terms_of es) e.0 e.1)
put_at true es ls e = first_at es ls e
put_at false es ls e = newest_at es ls e

-- what is in force

pub in_force_append : (ts : List Term) (fs gs : List Named) → AreInForce ts fs → AreInForce ts gs → AreInForce ts (fs ++ gs)
in_force_append ts [] gs h k = k
in_force_append ts (f ∷ fs) gs h k = (h.0, in_force_append ts fs gs h.1 k)

pub in_force_front : (ts : List Term) (fs gs : List Named) → AreInForce ts (fs ++ gs) → AreInForce ts fs
in_force_front ts [] gs h = tt
in_force_front ts (f ∷ fs) gs h = (h.0, in_force_front ts fs gs h.1)

pub in_force_behind : (ts : List Term) (fs gs : List Named) → AreInForce ts (fs ++ gs) → AreInForce ts gs
in_force_behind ts [] gs h = h
in_force_behind ts (f ∷ fs) gs h = in_force_behind ts fs gs h.1

first_in_force : (ts : List Term) (ls : List (List Named)) (e : Named) → AreInForce ts (joined ls) → IsInForce ts e.1 → AreInForce ts (joined (in_first ls e))
first_in_force ts [] e h k = h
first_in_force ts (l ∷ ls) e h k = in_force_append ts (l ++ e ∷ []) (joined ls) (in_force_append ts l (e ∷ []) (in_force_front ts l (joined ls) h) (k, tt)) (in_force_behind ts l (joined ls) h)

newest_in_force : (ts : List Term) (ls : List (List Named)) (e : Named) → AreInForce ts (joined ls) → IsInForce ts e.1 → AreInForce ts (joined (in_newest ls e))
newest_in_force ts [] e h k = h
newest_in_force ts (l ∷ []) e h k = in_force_append ts (l ++ e ∷ []) [] (in_force_append ts l (e ∷ []) (in_force_front ts l [] h) (k, tt)) tt
newest_in_force ts (l ∷ m ∷ ls) e h k = in_force_append ts l (joined (in_newest (m ∷ ls) e)) (in_force_front ts l (joined (m ∷ ls)) h) (newest_in_force ts (m ∷ ls) e (in_force_behind ts l (joined (m ∷ ls)) h) k)

pub put_in_force : (first : Bool) (ts : List Term) (ls : List (List Named)) (e : Named) → AreInForce ts (joined ls) → IsInForce ts e.1 → AreInForce ts (joined (put first ls e))
put_in_force true ts ls e h k = first_in_force ts ls e h k
put_in_force false ts ls e h k = newest_in_force ts ls e h k

joined_none : (A : Type 0) (n : ℕ) → joined {A = A} (replicate n []) ≡ []
joined_none A zero = refl
joined_none A (suc n) = joined_none A n

joined_more : (n : ℕ) (ls : List (List Named)) → joined (more_levels n ls) ≡ joined ls
joined_more n [] = joined_none Named n
joined_more n (l ∷ ls) = ap (λ (fs : List Named). l ++ fs) (joined_more n ls)

pub more_in_force : (ts : List Term) (n : ℕ) (ls : List (List Named)) → AreInForce ts (joined ls) → AreInForce ts (joined (more_levels n ls))
more_in_force ts n ls h = subst (λ (fs : List Named). AreInForce ts fs) (sym (joined_more n ls)) h

take_in_force : (ts : List Term) (n : ℕ) (ls : List (List Named)) → AreInForce ts (joined ls) → AreInForce ts (joined (take n ls))
take_in_force ts zero ls h = tt
take_in_force ts (suc n) [] h = tt
take_in_force ts (suc n) (l ∷ ls) h = in_force_append ts l (joined (take n ls)) (in_force_front ts l (joined ls) h) (take_in_force ts n ls (in_force_behind ts l (joined ls) h))

pub fewer_in_force : (ts : List Term) (n : ℕ) (ls : List (List Named)) → AreInForce ts (joined ls) → AreInForce ts (joined (fewer_levels n ls))
fewer_in_force ts n ls h = take_in_force ts (length ls - n) ls h

-- over a longer arena

pub levels_stay : (old new : List Entry) (ls : List (List Named)) → Grows old new → AreInForce (terms_of old) (joined ls) → functions_at new ls ≡ functions_at old ls
levels_stay old new [] g h = refl
levels_stay old new (l ∷ ls) g h =
    ap (λ (fs : List TheFunction). fs ∷ functions_at new ls) (functions_stay old new l g (in_force_front (terms_of old) l (joined ls) h))
    ∙ ap (λ (fs : List (List TheFunction)). functions_in (terms_of old) l ∷ fs) (levels_stay old new ls g (in_force_behind (terms_of old) l (joined ls) h))

-- levels opened and closed

pub more_at : (es : List Entry) (n : ℕ) (ls : List (List Named)) → functions_at es (more_levels n ls) ≡ more_levels n (functions_at es ls)
more_at es n [] = none_at n
  where
    none_at : (n : ℕ) → functions_at es (replicate n []) ≡ replicate n []
    none_at zero = refl
    none_at (suc n) = ap (λ (fs : List (List TheFunction)). [] ∷ fs) (none_at n)
more_at es n (l ∷ ls) = ap (λ (fs : List (List TheFunction)). functions_in (terms_of es) l ∷ fs) (more_at es n ls)

pub fewer_at : (es : List Entry) (n : ℕ) (ls : List (List Named)) → functions_at es (fewer_levels n ls) ≡ fewer_levels n (functions_at es ls)
fewer_at es n ls =
    sym (take-map (functions_in (terms_of es)) (length ls - n) ls)
    ∙ ap (λ (k : ℕ). take (k - n) (functions_at es ls)) (sym (length-map ls (functions_in (terms_of es))))

length_none : (A : Type 0) (n : ℕ) → length (more_levels {A = A} n []) ≡ n
length_none A zero = refl
length_none A (suc n) = ap suc (length_none A n)

pub length_more : {A : Type 0} (n : ℕ) (ls : List (List A)) → length (more_levels n ls) ≡ length ls + n
length_more {A = A} n [] = length_none A n ∙ (let e : n ≡ 0 + n = omega arith in e)
length_more n (l ∷ ls) = ap suc (length_more n ls) ∙ (let e : suc (length ls + n) ≡ suc (length ls) + n = omega arith in e)

take_more : {A : Type 0} (n : ℕ) (ls : List (List A)) → take (length ls) (more_levels n ls) ≡ ls
take_more n [] = refl
take_more {A = A} n (l ∷ ls) = ap (λ (k : List (List A)). l ∷ k) (take_more n ls)

-- levels that were opened are closed again
pub fewer_more : {A : Type 0} (n : ℕ) (ls : List (List A)) → fewer_levels n (more_levels n ls) ≡ ls
fewer_more n ls =
    let l : length (more_levels n ls) ≡ length ls + n = length_more n ls in
    let k : length (more_levels n ls) - n ≡ length ls = omega (arith, l) in
    ap (λ (i : ℕ). take i (more_levels n ls)) k ∙ take_more n ls

-- entries that were put in one level are taken out again

behind_newest : {A : Type 0} (l m : List A) (ls : List (List A)) (x : A) → count_newest (l ∷ in_newest (m ∷ ls) x) ≡ count_newest (in_newest (m ∷ ls) x)
behind_newest l m [] x = refl
behind_newest l m (k ∷ ls) x = refl

count_newest_put : {A : Type 0} (ls : List (List A)) (x : A) → count_newest ls ≤ count_newest (in_newest ls x)
count_newest_put [] x = omega arith
count_newest_put (l ∷ []) x = let k = length_push l x in omega (arith, k)
count_newest_put (l ∷ m ∷ ls) x = subst (λ (n : ℕ). count_newest (m ∷ ls) ≤ n) (sym (behind_newest l m ls x)) (count_newest_put (m ∷ ls) x)

count_first_put : {A : Type 0} (ls : List (List A)) (x : A) → count_first ls ≤ count_first (in_first ls x)
count_first_put [] x = omega arith
count_first_put (l ∷ ls) x = let k = length_push l x in omega (arith, k)

count_put : {A : Type 0} (first : Bool) (ls : List (List A)) (x : A) → count_level first ls ≤ count_level first (put first ls x)
count_put true ls x = count_first_put ls x
count_put false ls x = count_newest_put ls x

behind_cut : {A : Type 0} (l m : List A) (ls : List (List A)) (x : A) (n : ℕ) → cut_newest (l ∷ in_newest (m ∷ ls) x) n ≡ l ∷ cut_newest (in_newest (m ∷ ls) x) n
behind_cut l m [] x n = refl
behind_cut l m (k ∷ ls) x n = refl

cut_newest_put : {A : Type 0} (ls : List (List A)) (x : A) (n : ℕ) → n ≤ count_newest ls → cut_newest (in_newest ls x) n ≡ cut_newest ls n
cut_newest_put [] x n le = refl
cut_newest_put {A = A} (l ∷ []) x n le = ap (λ (k : List A). k ∷ []) (take-append-le n l (x ∷ []) le)
cut_newest_put {A = A} (l ∷ m ∷ ls) x n le = behind_cut l m ls x n ∙ ap (λ (k : List (List A)). l ∷ k) (cut_newest_put (m ∷ ls) x n le)

cut_first_put : {A : Type 0} (ls : List (List A)) (x : A) (n : ℕ) → n ≤ count_first ls → cut_first (in_first ls x) n ≡ cut_first ls n
cut_first_put [] x n le = refl
cut_first_put {A = A} (l ∷ ls) x n le = ap (λ (k : List A). k ∷ ls) (take-append-le n l (x ∷ []) le)

cut_put : {A : Type 0} (first : Bool) (ls : List (List A)) (x : A) (n : ℕ) → n ≤ count_level first ls → cut_level first (put first ls x) n ≡ cut_level first ls n
cut_put true ls x n le = cut_first_put ls x n le
cut_put false ls x n le = cut_newest_put ls x n le

cut_put_all : {A : Type 0} (first : Bool) (ls : List (List A)) (xs : List A) (n : ℕ) → n ≤ count_level first ls → cut_level first (put_all first ls xs) n ≡ cut_level first ls n
cut_put_all first ls [] n le = refl
cut_put_all first ls (x ∷ xs) n le = let k = count_put first ls x in cut_put_all first (put first ls x) xs n (omega (arith, le, k)) ∙ cut_put first ls x n le

pub cut_extended : {A : Type 0} (first : Bool) (old new : List (List A)) → Extends first old new → cut_level first new (count_level first old) ≡ old
cut_extended {A = A} first old new h =
    ap (λ (ls : List (List A)). cut_level first ls (count_level first old)) h.1
    ∙ cut_put_all first old h.0 (count_level first old) (let k : count_level first old ≤ count_level first old = omega arith in k)
    ∙ cut_nothing first old (count_level first old) (let k : count_level first old ≤ count_level first old = omega arith in k)

pub cut_one : {A : Type 0} (first : Bool) (old new : List (List A)) (x : A) (n : ℕ) → new ≡ put first old x → n ≡ count_level first old → cut_level first new n ≡ old
cut_one {A = A} first old new x n e k = ap (cut_level first new) k ∙ cut_extended first old new (x ∷ [], e)

pub extends_refl : {A : Type 0} (first : Bool) (ls : List (List A)) → Extends first ls ls
extends_refl first ls = ([], refl)

put_all_append : {A : Type 0} (first : Bool) (ls : List (List A)) (xs ys : List A) → put_all first ls (xs ++ ys) ≡ put_all first (put_all first ls xs) ys
put_all_append first ls [] ys = refl
put_all_append first ls (x ∷ xs) ys = put_all_append first (put first ls x) xs ys

pub extends_trans : {A : Type 0} (first : Bool) (a b c : List (List A)) → Extends first a b → Extends first b c → Extends first a c
extends_trans {A = A} first a b c h k = (h.0 ++ k.0, k.1 ∙ ap (λ (ls : List (List A)). put_all first ls k.0) h.1 ∙ sym (put_all_append first a h.0 k.0))

pub length_newest : {A : Type 0} (ls : List (List A)) (x : A) → length (in_newest ls x) ≡ length ls
length_newest [] x = refl
length_newest (l ∷ []) x = refl
length_newest (l ∷ m ∷ ls) x = ap suc (length_newest (m ∷ ls) x)

length_first : {A : Type 0} (ls : List (List A)) (x : A) → length (in_first ls x) ≡ length ls
length_first [] x = refl
length_first (l ∷ ls) x = refl

-- no level is opened or closed where an entry is put in one
pub length_put : {A : Type 0} (first : Bool) (ls : List (List A)) (x : A) → length (put first ls x) ≡ length ls
length_put true ls x = length_first ls x
length_put false ls x = length_newest ls x

pub length_put_all : {A : Type 0} (first : Bool) (ls : List (List A)) (xs : List A) → length (put_all first ls xs) ≡ length ls
length_put_all first ls [] = refl
length_put_all first ls (x ∷ xs) = length_put_all first (put first ls x) xs ∙ length_put first ls x

pub length_extends : {A : Type 0} (first : Bool) (old new : List (List A)) → Extends first old new → length new ≡ length old
length_extends first old new h = ap length h.1 ∙ length_put_all first old h.0

pub length_inserted : {A : Type 0} (first b : Bool) (old new : List (List A)) (x : A) → (b ≡ false → new ≡ old) → (b ≡ true → new ≡ put first old x) → length new ≡ length old
length_inserted first true old new x t a = ap length (a refl) ∙ length_put first old x
length_inserted first false old new x t a = ap length (t refl)

-- what was put in is cut back again
pub cut_restored : {A : Type 0} (first : Bool) (old mid new : List (List A)) (n : ℕ) → new ≡ cut_level first mid n → n ≡ count_level first old → Extends first old mid → new ≡ old
cut_restored first old mid new n e c x = e ∙ ap (cut_level first mid) c ∙ cut_extended first old mid x

pub length_fewer : {A : Type 0} (n : ℕ) (ls : List (List A)) → length (fewer_levels n ls) ≡ length ls - n
length_fewer n ls = length-take-le (length ls - n) ls (omega arith)
