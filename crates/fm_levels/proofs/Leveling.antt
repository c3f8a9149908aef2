-- What the calls leave, by the lists that the code keeps.
use Rattle.std.proofs.Common.{map, Bool, true, false, not, ◌≡◌, ℕ, zero, suc, ◌+◌, ◌-◌, ◌^◌, ◌<◌, ◌≤◌, List, [], ◌∷◌, ◌++◌, length, take, drop, get_or, replicate, ap, refl, sym, subst, ◌∙◌, arith}
use Rattle.std.specs.Prelude.{Option, Some, None, cond, is_some, nat_lt, slice_get}
use Rattle.std.specs.Str.{bytes_eq}
use Rattle.std.proofs.lemmas.List.{drop-take, take-take, take_all, get_or_default, length-drop, length-append, length_push, length-take-le, append-nil}
use Rattle.std.proofs.lemmas.Bool.{le-ltb}
use Rattle.fm_levels.specs.Tables.{has, looked_up}
use Rattle.fm_levels.specs.Levels.{count_level, count_newest, cut_level, cut_newest, in_newest, joined, put, stands_below}
use Rattle.fm_levels.specs.Cuts.{AreCut, Ascend, cut_from, last_of, levels_in}
use Rattle.fm_levels.proofs.Cutting.{ascend_cut, ascend_end, ascend_longer, ascend_push, cut_entry, cut_joined, cut_length, cut_pop, cut_push, empty_levels, mark_within, newest_behind, part_of_cut}

pub length_levels : {A : Type 0} (f u : List A) (ms : List ℕ) → length (levels_in f u ms) ≡ suc (length ms)
length_levels f u [] = refl
length_levels f u (m ∷ ms) = ap suc (cut_length u m ms)

pub joined_levels : {A : Type 0} (f u : List A) (ms : List ℕ) → AreCut u ms → joined (levels_in f u ms) ≡ f ++ u
joined_levels {A = A} f u [] c = ap (λ (l : List A). f ++ l) (sym c)
joined_levels {A = A} f u (m ∷ ms) c = ap (λ (l : List A). f ++ l) (cut_joined u m ms c.1 ∙ ap (λ (k : ℕ). drop k u) c.0)

-- one more entry

pub put_in_first : {A : Type 0} (first : Bool) (f u : List A) (ms : List ℕ) (x : A) → stands_below first (levels_in f u ms) ≡ true → levels_in (f ++ x ∷ []) u ms ≡ put first (levels_in f u ms) x
put_in_first true f u ms x h = refl
put_in_first false f u [] x h = refl
put_in_first false f u (m ∷ []) x h = cc
put_in_first false f u (m ∷ k ∷ ms) x h = cc

pub put_in_upper : {A : Type 0} (first : Bool) (f u : List A) (ms : List ℕ) (x : A) → stands_below first (levels_in f u ms) ≡ false → AreCut u ms → levels_in f (u ++ x ∷ []) ms ≡ put first (levels_in f u ms) x
put_in_upper first f u [] x h c = cc
put_in_upper true f u (m ∷ []) x h c = cc
put_in_upper true f u (m ∷ k ∷ ms) x h c = cc
put_in_upper {A = A} false f u (m ∷ ms) x h c = ap (λ (ls : List (List A)). f ∷ ls) (cut_entry u x m ms c.1) ∙ sym (newest_behind f u m ms x)

pub longer_cut : {A : Type 0} (first : Bool) (f u : List A) (ms : List ℕ) (x : A) → stands_below first (levels_in f u ms) ≡ false → AreCut u ms → AreCut (u ++ x ∷ []) ms
longer_cut first f u [] x h c = cc
longer_cut first f u (m ∷ ms) x h c = let l = length_push u x in (c.0, ascend_longer m (length u) (length (u ++ x ∷ [])) ms c.1 (omega (arith, l)))

-- more levels

pub push_levels : {A : Type 0} (f u : List A) (ms : List ℕ) (n : ℕ) → AreCut u ms → levels_in f u (ms ++ replicate n (length u)) ≡ levels_in f u ms ++ replicate n []
push_levels f u [] zero c = refl
push_levels {A = A} f u [] (suc n) c = ap (λ (ls : List (List A)). f ∷ ls) (empty_levels u n)
push_levels {A = A} f u (m ∷ ms) n c = ap (λ (ls : List (List A)). f ∷ ls) (cut_push u n m ms c.1)

pub push_cut : {A : Type 0} (u : List A) (ms : List ℕ) (n : ℕ) → AreCut u ms → AreCut u (ms ++ replicate n (length u))
push_cut u [] zero c = c
push_cut u [] (suc n) c = (ap length c, ascend_push (length u) n (length u) [] (let k : length u ≤ length u = omega arith in k))
push_cut u (m ∷ ms) n c = (c.0, ascend_push (length u) n m ms c.1)

-- fewer levels

pub pop_levels : {A : Type 0} (f u : List A) (ms : List ℕ) (k : ℕ) → AreCut u ms → k < length ms → levels_in f (take (get_or ms k 0) u) (take k ms) ≡ take (suc k) (levels_in f u ms)
pop_levels f u [] k c lt = absurd (omega (arith, lt))
pop_levels f u (m ∷ ms) zero c lt = refl
pop_levels {A = A} f u (m ∷ ms) (suc k) c lt = ap (λ (ls : List (List A)). f ∷ ls) (cut_pop u m k ms c.1 (omega (arith, lt)))

pub pop_cut : {A : Type 0} (u : List A) (ms : List ℕ) (k : ℕ) → AreCut u ms → k < length ms → AreCut (take (get_or ms k 0) u) (take k ms)
pop_cut u [] k c lt = absurd (omega (arith, lt))
pop_cut u (m ∷ ms) zero c lt = ap (λ (i : ℕ). take i u) c.0
pop_cut u (m ∷ ms) (suc k) c lt =
    let small : k < length ms = omega (arith, lt) in
    let size : length (take (get_or ms k 0) u) ≡ get_or ms k 0 = length-take-le (get_or ms k 0) u (mark_within m (length u) k ms c.1 small) in
    (c.0, subst (λ (i : ℕ). Ascend m (take k ms) i) (sym size) (ascend_cut m (length u) k ms c.1 small))

-- names

pub found_first : {V : Type 0} (name : List ℕ) (f u : List (List ℕ × V)) (v : V) → looked_up name f ≡ Some v → looked_up name (f ++ u) ≡ Some v
found_first name [] u v h = cc
found_first {V = V} name (e ∷ f) u v h = chosen (bytes_eq e.0 name) e.1 (looked_up name f) (looked_up name (f ++ u)) v h (found_first name f u v)
  where
    chosen : (b : Bool) (x : V) (o p : Option V) (w : V) → cond b (Some x) o ≡ Some w → (o ≡ Some w → p ≡ Some w) → cond b (Some x) p ≡ Some w
    chosen true x o p w e go = e
    chosen false x o p w e go = go e

pub found_upper : {V : Type 0} (name : List ℕ) (f u : List (List ℕ × V)) → looked_up name f ≡ None → looked_up name (f ++ u) ≡ looked_up name u
found_upper name [] u h = refl
found_upper {V = V} name (e ∷ f) u h = chosen (bytes_eq e.0 name) e.1 (looked_up name f) (looked_up name (f ++ u)) (looked_up name u) h (found_upper name f u)
  where
    chosen : (b : Bool) (x : V) (o p q : Option V) → cond b (Some x) o ≡ None → (o ≡ None → p ≡ q) → cond b (Some x) p ≡ q
    chosen true x o p q e go = cc
    chosen false x o p q e go = go e

-- places

pub at_first : {A : Type 0} (f u : List A) (i : ℕ) → i < length f → slice_get (f ++ u) i ≡ slice_get f i
at_first [] u i lt = absurd (omega (arith, lt))
at_first (x ∷ f) u zero lt = refl
at_first (x ∷ f) u (suc i) lt = at_first f u i (omega (arith, lt))

pub at_upper : {A : Type 0} (f u : List A) (i : ℕ) → length f ≤ i → slice_get (f ++ u) i ≡ slice_get u (i - length f)
at_upper [] u i le = ap (slice_get u) (let e : i ≡ i - 0 = omega arith in e)
at_upper (x ∷ f) u zero le = absurd (omega (arith, le))
at_upper (x ∷ f) u (suc i) le = at_upper f u i (omega (arith, le)) ∙ ap (slice_get u) (let e : i - length f ≡ suc i - suc (length f) = omega arith in e)

-- the entries of one level

pub count_below : {A : Type 0} (first : Bool) (f u : List A) (ms : List ℕ) → stands_below first (levels_in f u ms) ≡ true → count_level first (levels_in f u ms) ≡ length f
count_below true f u ms h = refl
count_below false f u [] h = refl
count_below false f u (m ∷ []) h = cc
count_below false f u (m ∷ k ∷ ms) h = cc

count_behind : {A : Type 0} (l u : List A) (m : ℕ) (ms : List ℕ) → count_newest (l ∷ cut_from u m ms) ≡ count_newest (cut_from u m ms)
count_behind l u m [] = refl
count_behind l u m (k ∷ ms) = refl

count_cut : {A : Type 0} (u : List A) (m : ℕ) (ms : List ℕ) → count_newest (cut_from u m ms) ≡ length u - last_of (m ∷ ms)
count_cut u m [] = length-drop m u
count_cut u m (k ∷ ms) = count_behind (take (k - m) (drop m u)) u k ms ∙ count_cut u k ms

pub count_above : {A : Type 0} (first : Bool) (f u : List A) (ms : List ℕ) → stands_below first (levels_in f u ms) ≡ false → count_level first (levels_in f u ms) ≡ length u - last_of ms
count_above first f u [] h = cc
count_above true f u (m ∷ []) h = cc
count_above true f u (m ∷ k ∷ ms) h = cc
count_above false f u (m ∷ ms) h = count_behind f u m ms ∙ count_cut u m ms

pub last_within : (m end : ℕ) (ms : List ℕ) → Ascend m ms end → last_of (m ∷ ms) ≤ end
last_within m end [] h = h
last_within m end (k ∷ ms) h = last_within k end ms h.1

pub last_is_within : {A : Type 0} (u : List A) (ms : List ℕ) → AreCut u ms → last_of ms ≤ length u
last_is_within u [] c = omega arith
last_is_within u (m ∷ ms) c = last_within m (length u) ms c.1

pub cut_below : {A : Type 0} (first : Bool) (f u : List A) (ms : List ℕ) (n : ℕ) → stands_below first (levels_in f u ms) ≡ true → levels_in (take n f) u ms ≡ cut_level first (levels_in f u ms) n
cut_below true f u ms n h = refl
cut_below false f u [] n h = refl
cut_below false f u (m ∷ []) n h = cc
cut_below false f u (m ∷ k ∷ ms) n h = cc

newest_cut_behind : {A : Type 0} (l u : List A) (m : ℕ) (ms : List ℕ) (n : ℕ) → cut_newest (l ∷ cut_from u m ms) n ≡ l ∷ cut_newest (cut_from u m ms) n
newest_cut_behind l u m [] n = refl
newest_cut_behind l u m (k ∷ ms) n = refl

last_after : (m end : ℕ) (ms : List ℕ) → Ascend m ms end → m ≤ last_of (m ∷ ms)
last_after m end [] h = omega arith
last_after m end (k ∷ ms) h = let a = h.0 in let b = last_after k end ms h.1 in omega (arith, a, b)

cut_cut : {A : Type 0} (u : List A) (m : ℕ) (ms : List ℕ) (n : ℕ) → Ascend m ms (length u) → cut_from (take (last_of (m ∷ ms) + n) u) m ms ≡ cut_newest (cut_from u m ms) n
cut_cut {A = A} u m [] n h = ap (λ (l : List A). l ∷ []) (drop-take m n u)
cut_cut {A = A} u m (k ∷ ms) n h =
    let last = last_of (k ∷ ms) in
    let a = h.0 in
    let b = last_after k (length u) ms h.1 in
    let head : take (k - m) (drop m (take (last + n) u)) ≡ take (k - m) (drop m u) = ap (take (k - m)) (part_of_cut u m (last + n) (omega (arith, a, b))) ∙ take-take (k - m) (last + n - m) (drop m u) (omega (arith, b)) in
    ap (λ (l : List A). l ∷ cut_from (take (last + n) u) k ms) head ∙ ap (λ (ls : List (List A)). take (k - m) (drop m u) ∷ ls) (cut_cut u k ms n h.1) ∙ sym (newest_cut_behind (take (k - m) (drop m u)) u k ms n)

pub cut_above : {A : Type 0} (first : Bool) (f u : List A) (ms : List ℕ) (n : ℕ) → stands_below first (levels_in f u ms) ≡ false → AreCut u ms → levels_in f (take (last_of ms + n) u) ms ≡ cut_level first (levels_in f u ms) n
cut_above first f u [] n h c = cc
cut_above true f u (m ∷ []) n h c = cc
cut_above true f u (m ∷ k ∷ ms) n h c = cc
cut_above {A = A} false f u (m ∷ ms) n h c = ap (λ (ls : List (List A)). f ∷ ls) (cut_cut u m ms n c.1) ∙ sym (newest_cut_behind f u m ms n)

ascend_shorter : (m end e : ℕ) (ms : List ℕ) → Ascend m ms end → last_of (m ∷ ms) ≤ e → Ascend m ms e
ascend_shorter m end e [] h le = le
ascend_shorter m end e (k ∷ ms) h le = (h.0, ascend_shorter k end e ms h.1 le)

pub shorter_cut : {A : Type 0} (first : Bool) (f u : List A) (ms : List ℕ) (n : ℕ) → stands_below first (levels_in f u ms) ≡ false → AreCut u ms → last_of ms + n ≤ length u → AreCut (take (last_of ms + n) u) ms
shorter_cut first f u [] n h c le = cc
shorter_cut first f u (m ∷ ms) n h c le =
    let size : length (take (last_of (m ∷ ms) + n) u) ≡ last_of (m ∷ ms) + n = length-take-le (last_of (m ∷ ms) + n) u le in
    (c.0, ascend_shorter m (length u) (length (take (last_of (m ∷ ms) + n) u)) ms c.1 (omega (arith, size)))

-- what is put in is taken out again

take_newest : {A : Type 0} (ls : List (List A)) (n : ℕ) → count_newest ls ≤ n → cut_newest ls n ≡ ls
take_newest [] n le = refl
take_newest {A = A} (l ∷ []) n le = ap (λ (k : List A). k ∷ []) (take_all n l le)
take_newest {A = A} (l ∷ k ∷ ls) n le = ap (λ (m : List (List A)). l ∷ m) (take_newest (k ∷ ls) n le)

pub cut_nothing : {A : Type 0} (first : Bool) (ls : List (List A)) (n : ℕ) → count_level first ls ≤ n → cut_level first ls n ≡ ls
cut_nothing true [] n le = refl
cut_nothing {A = A} true (l ∷ ls) n le = ap (λ (k : List A). k ∷ ls) (take_all n l le)
cut_nothing false ls n le = take_newest ls n le

-- what the calls answer

pub len_is : {A : Type 0} (f u : List A) (ms slice : List ℕ) (ls : List (List A)) → levels_in f u ms ≡ ls → slice ≡ ms → length slice + 1 ≡ length ls
len_is f u ms slice ls v e =
    let a = ap length v in
    let b = length_levels f u ms in
    let s = ap length e in
    omega (arith, a, b, s)

pub joined_is : {A : Type 0} (f u : List A) (ms : List ℕ) (ls : List (List A)) → levels_in f u ms ≡ ls → AreCut u ms → joined ls ≡ f ++ u
joined_is f u ms ls v c = ap joined (sym v) ∙ joined_levels f u ms c

pub found_below : {V : Type 0} (name : List ℕ) (f u : List (List ℕ × V)) (ms : List ℕ) (ls : List (List (List ℕ × V))) (v : V) → levels_in f u ms ≡ ls → AreCut u ms → Some v ≡ looked_up name f → Some v ≡ looked_up name (joined ls)
found_below name f u ms ls v e c h = sym (ap (looked_up name) (joined_is f u ms ls e c) ∙ found_first name f u v (sym h))

pub found_above : {V : Type 0} (name : List ℕ) (f u : List (List ℕ × V)) (ms : List ℕ) (ls : List (List (List ℕ × V))) → levels_in f u ms ≡ ls → AreCut u ms → None ≡ looked_up name f → looked_up name u ≡ looked_up name (joined ls)
found_above name f u ms ls e c h = sym (ap (looked_up name) (joined_is f u ms ls e c) ∙ found_upper name f u (sym h))

some_there : {V : Type 0} (o : Option V) → is_some o ≡ true → (v : V) × (o ≡ Some v)
some_there (Some v) h = (v, refl)
some_there None h = cc

none_there : {V : Type 0} (o : Option V) → is_some o ≡ false → o ≡ None
none_there (Some v) h = cc
none_there None h = refl

pub has_below : {V : Type 0} (name : List ℕ) (f u : List (List ℕ × V)) (ms : List ℕ) (ls : List (List (List ℕ × V))) (b : Bool) → levels_in f u ms ≡ ls → AreCut u ms → b ≡ has name f → b ≡ true → b ≡ has name (joined ls)
has_below name f u ms ls b e c h t =
    let p = some_there (looked_up name f) (sym h ∙ t) in
    t ∙ sym (ap is_some (ap (looked_up name) (joined_is f u ms ls e c) ∙ found_first name f u p.0 p.1))

pub has_above : {V : Type 0} (name : List ℕ) (f u : List (List ℕ × V)) (ms : List ℕ) (ls : List (List (List ℕ × V))) (b r : Bool) → levels_in f u ms ≡ ls → AreCut u ms → b ≡ has name f → b ≡ false → r ≡ has name u → r ≡ has name (joined ls)
has_above name f u ms ls b r e c h t k =
    k ∙ sym (ap is_some (ap (looked_up name) (joined_is f u ms ls e c) ∙ found_upper name f u (none_there (looked_up name f) (sym h ∙ t))))

pub found_at : {A : Type 0} (f u : List A) (ms : List ℕ) (ls : List (List A)) (i n : ℕ) → levels_in f u ms ≡ ls → AreCut u ms → n ≡ length f → n ≤ i → slice_get u (i - n) ≡ slice_get (joined ls) i
found_at {A = A} f u ms ls i n e c l le =
    let k : length f ≤ i = omega (arith, l, le) in
    sym (ap (λ (xs : List A). slice_get xs i) (joined_is f u ms ls e c) ∙ at_upper f u i k ∙ ap (λ (m : ℕ). slice_get u (i - m)) (sym l))

pub count_is : {A : Type 0} (f u : List A) (ms : List ℕ) (ls : List (List A)) (a b n : ℕ) → levels_in f u ms ≡ ls → AreCut u ms → a ≡ length f → b ≡ length u → n ≡ a + b → n ≡ length (joined ls)
count_is f u ms ls a b n e c la lb s =
    let j = ap length (joined_is f u ms ls e c) in
    let l = length-append f u in
    omega (arith, la, lb, s, j, l)

pub count_is_over : {A : Type 0} (f u : List A) (ms : List ℕ) (ls : List (List A)) (a b : ℕ) → levels_in f u ms ≡ ls → AreCut u ms → a ≡ length f → b ≡ length u → (a + b < 2 ^ 64 → ⊥) → 2 ^ 64 ≤ length (joined ls)
count_is_over f u ms ls a b e c la lb o =
    let j = ap length (joined_is f u ms ls e c) in
    let l = length-append f u in
    omega (arith, la, lb, o, j, l)

below_by_marks : {A : Type 0} (f u : List A) (ms : List ℕ) → nat_lt (length ms) 1 ≡ stands_below false (levels_in f u ms)
below_by_marks f u [] = refl
below_by_marks f u (m ∷ []) = refl
below_by_marks f u (m ∷ k ∷ ms) = le-ltb (suc (suc (length ms))) 1 (omega arith)

pub below_is : {A : Type 0} (first : Bool) (f u : List A) (ms slice : List ℕ) (ls : List (List A)) → first ≡ false → levels_in f u ms ≡ ls → slice ≡ ms → nat_lt (length slice) 1 ≡ stands_below first ls
below_is {A = A} first f u ms slice ls off e s =
    ap (λ (xs : List ℕ). nat_lt (length xs) 1) s ∙ below_by_marks f u ms ∙ ap (λ (b : Bool). stands_below b (levels_in f u ms)) (sym off) ∙ ap (stands_below first) e

pub last_at : (ms : List ℕ) (d : ℕ) → 0 < length ms → get_or ms (length ms - 1) d ≡ last_of ms
last_at [] d lt = absurd (omega (arith, lt))
last_at (m ∷ []) d lt = refl
last_at (m ∷ k ∷ ms) d lt =
    ap (λ (i : ℕ). get_or (m ∷ k ∷ ms) i d) (let e : suc (suc (length ms)) - 1 ≡ suc (length ms) = omega arith in e)
    ∙ ap (λ (i : ℕ). get_or (k ∷ ms) i d) (let e : length ms ≡ suc (length ms) - 1 = omega arith in e) ∙ last_at (k ∷ ms) d (omega arith)

pub last_is : (ms : List ℕ) (n x : ℕ) → n ≡ length ms → 0 < n → x ≡ get_or ms (n - 1) x → x ≡ last_of ms
last_is ms n x e lt h =
    let pos : 0 < length ms = omega (arith, e, lt) in
    h ∙ ap (λ (k : ℕ). get_or ms (k - 1) x) e ∙ last_at ms x pos

pub mark_is_within : {A : Type 0} (u : List A) (ms slice : List ℕ) (mark len : ℕ) → AreCut u ms → slice ≡ ms → mark ≡ last_of slice → len ≡ length u → mark ≤ len
mark_is_within u ms slice mark len c e m l =
    let k : mark ≡ last_of ms = m ∙ ap last_of e in
    let w = last_is_within u ms c in
    omega (arith, k, l, w)

pub count_is_above : {A : Type 0} (first : Bool) (f u : List A) (ms slice : List ℕ) (ls : List (List A)) (mark len : ℕ) → levels_in f u ms ≡ ls → slice ≡ ms → mark ≡ last_of slice → len ≡ length u → stands_below first ls ≡ false → len - mark ≡ count_level first ls
count_is_above first f u ms slice ls mark len e s m l b =
    let k : mark ≡ last_of ms = m ∙ ap last_of s in
    let d : len - mark ≡ length u - last_of ms = omega (arith, k, l) in
    d ∙ sym (count_above first f u ms (ap (stands_below first) e ∙ b)) ∙ ap (count_level first) e

pub count_is_below : {A : Type 0} (first : Bool) (f u : List A) (ms : List ℕ) (ls : List (List A)) → levels_in f u ms ≡ ls → stands_below first ls ≡ true → length f ≡ count_level first ls
count_is_below first f u ms ls e b = sym (count_below first f u ms (ap (stands_below first) e ∙ b)) ∙ ap (count_level first) e

pub cut_is_below : {A : Type 0} (first : Bool) (f u : List A) (ms : List ℕ) (ls : List (List A)) (n : ℕ) → levels_in f u ms ≡ ls → stands_below first ls ≡ true → levels_in (take n f) u ms ≡ cut_level first ls n
cut_is_below {A = A} first f u ms ls n e b = cut_below first f u ms n (ap (stands_below first) e ∙ b) ∙ ap (λ (l : List (List A)). cut_level first l n) e

-- the newest level above the first one cut back to fewer entries
pub cut_is_above : {A : Type 0} (first : Bool) (f u less : List A) (ms slice : List ℕ) (ls : List (List A)) (mark len n : ℕ) → levels_in f u ms ≡ ls → AreCut u ms → slice ≡ ms → mark ≡ last_of slice → len ≡ length u → stands_below first ls ≡ false → n < len - mark → less ≡ take (mark + n) u
    → (levels_in f less ms ≡ cut_level first ls n) × AreCut less ms
cut_is_above {A = A} first f u less ms slice ls mark len n e c s m l b lt t =
    let k : mark ≡ last_of ms = m ∙ ap last_of s in
    let w = last_is_within u ms c in
    let up : stands_below first (levels_in f u ms) ≡ false = ap (stands_below first) e ∙ b in
    let is : less ≡ take (last_of ms + n) u = t ∙ ap (λ (i : ℕ). take (i + n) u) k in
    let le : last_of ms + n ≤ length u = omega (arith, k, l, w, lt) in (
      ap (λ (xs : List A). levels_in f xs ms) is ∙ cut_above first f u ms n up c ∙ ap (λ (x : List (List A)). cut_level first x n) e,
      subst (λ (xs : List A). AreCut xs ms) (sym is) (shorter_cut first f u ms n up c le),
    )

pub cut_is_nothing : {A : Type 0} (first : Bool) (f u : List A) (ms slice : List ℕ) (ls : List (List A)) (mark len n : ℕ) → levels_in f u ms ≡ ls → slice ≡ ms → mark ≡ last_of slice → len ≡ length u → stands_below first ls ≡ false → len - mark ≤ n → ls ≡ cut_level first ls n
cut_is_nothing first f u ms slice ls mark len n e s m l b le =
    let k : len - mark ≡ count_level first ls = count_is_above first f u ms slice ls mark len e s m l b in
    sym (cut_nothing first ls n (omega (arith, k, le)))

pub put_is_below : {A : Type 0} (first : Bool) (f u more : List A) (ms : List ℕ) (ls : List (List A)) (x : A) → levels_in f u ms ≡ ls → stands_below first ls ≡ true → more ≡ f ++ x ∷ [] → levels_in more u ms ≡ put first ls x
put_is_below {A = A} first f u more ms ls x e b m = ap (λ (xs : List A). levels_in xs u ms) m ∙ put_in_first first f u ms x (ap (stands_below first) e ∙ b) ∙ ap (λ (l : List (List A)). put first l x) e

pub put_is_above : {A : Type 0} (first : Bool) (f u more : List A) (ms : List ℕ) (ls : List (List A)) (x : A) → levels_in f u ms ≡ ls → AreCut u ms → stands_below first ls ≡ false → more ≡ u ++ x ∷ [] → (levels_in f more ms ≡ put first ls x) × AreCut more ms
put_is_above {A = A} first f u more ms ls x e c b m =
    let up : stands_below first (levels_in f u ms) ≡ false = ap (stands_below first) e ∙ b in (
      ap (λ (xs : List A). levels_in f xs ms) m ∙ put_in_upper first f u ms x up c ∙ ap (λ (l : List (List A)). put first l x) e,
      subst (λ (xs : List A). AreCut xs ms) (sym m) (longer_cut first f u ms x up c),
    )

-- a name that is in no level is in neither table
pub fresh_below : {V : Type 0} (name : List ℕ) (f u : List (List ℕ × V)) (ms : List ℕ) (ls : List (List (List ℕ × V))) (b r : Bool) → levels_in f u ms ≡ ls → AreCut u ms → r ≡ has name (joined ls) → r ≡ false → b ≡ not (has name f) → b ≡ true
fresh_below {V = V} name f u ms ls b r e c h z n = by (looked_up name f) refl
  where
    by : (o : Option V) → looked_up name f ≡ o → b ≡ true
    by None k = n ∙ ap (λ (p : Option V). not (is_some p)) k
    by (Some v) k =
        let t : true ≡ has name (joined ls) = ap is_some (sym (ap (looked_up name) (joined_is f u ms ls e c) ∙ found_first name f u v k)) in
        cc

pub fresh_above : {V : Type 0} (name : List ℕ) (f u : List (List ℕ × V)) (ms : List ℕ) (ls : List (List (List ℕ × V))) (b r : Bool) → levels_in f u ms ≡ ls → AreCut u ms → r ≡ has name (joined ls) → r ≡ false → b ≡ not (has name u) → b ≡ true
fresh_above {V = V} name f u ms ls b r e c h z n = by (looked_up name f) refl
  where
    by : (o : Option V) → looked_up name f ≡ o → b ≡ true
    by None k =
        let same : has name (joined ls) ≡ has name u = ap is_some (ap (looked_up name) (joined_is f u ms ls e c) ∙ found_upper name f u k) in
        n ∙ ap not (sym same ∙ sym h ∙ z)
    by (Some v) k =
        let t : true ≡ has name (joined ls) = ap is_some (sym (ap (looked_up name) (joined_is f u ms ls e c) ∙ found_first name f u v k)) in
        cc

pub resized : (marks slice new : List ℕ) (count size mark : ℕ) → slice ≡ marks → new ≡ take (length slice + count) marks ++ replicate (length slice + count - size) mark → size ≡ length marks → new ≡ marks ++ replicate count mark
resized marks slice new count size mark v e s =
    let l : length slice ≡ length marks = ap length v in
    let n : length slice + count - size ≡ count = omega (arith, l, s) in
    e ∙ ap (λ (l : List ℕ). l ++ replicate (length slice + count - size) mark) (take_all (length slice + count) marks (omega (arith, l))) ∙ ap (λ (k : ℕ). marks ++ replicate k mark) n

-- entries without names

pub stack_joined : {A : Type 0} (es : List A) (ms : List ℕ) (ls : List (List A)) → cut_from es 0 ms ≡ ls → Ascend 0 ms (length es) → es ≡ joined ls
stack_joined es ms ls e h = sym (cut_joined es 0 ms h) ∙ ap joined e

pub stack_put : {A : Type 0} (es more : List A) (ms : List ℕ) (ls : List (List A)) (x : A) → cut_from es 0 ms ≡ ls → Ascend 0 ms (length es) → more ≡ es ++ x ∷ [] → (cut_from more 0 ms ≡ in_newest ls x) × Ascend 0 ms (length more)
stack_put {A = A} es more ms ls x e h m =
    let l = length_push es x in
    let k = ap length m in (
      ap (λ (xs : List A). cut_from xs 0 ms) m ∙ cut_entry es x 0 ms h ∙ ap (λ (l : List (List A)). in_newest l x) e,
      ascend_longer 0 (length es) (length more) ms h (omega (arith, l, k)),
    )

pub stack_push : {A : Type 0} (es : List A) (ms new : List ℕ) (ls : List (List A)) (n mark : ℕ) → cut_from es 0 ms ≡ ls → Ascend 0 ms (length es) → mark ≡ length es → new ≡ ms ++ replicate n mark → (cut_from es 0 new ≡ ls ++ replicate n []) × Ascend 0 new (length es)
stack_push {A = A} es ms new ls n mark e h m r =
    let f : new ≡ ms ++ replicate n (length es) = r ∙ ap (λ (k : ℕ). ms ++ replicate n k) m in (
      ap (cut_from es 0) f ∙ cut_push es n 0 ms h ∙ ap (λ (l : List (List A)). l ++ replicate n []) e,
      subst (λ (l : List ℕ). Ascend 0 l (length es)) (sym f) (ascend_push (length es) n 0 ms h),
    )

pub kept_within : (ms slice : List ℕ) (long count : ℕ) → slice ≡ ms → long ≡ suc (length ms) → count < long → count ≤ length slice
kept_within ms slice long count e l lt = let s = ap length e in omega (arith, s, l, lt)

pub levels_long : {A : Type 0} (f u : List A) (ms : List ℕ) (ls : List (List A)) → levels_in f u ms ≡ ls → length ls ≡ suc (length ms)
levels_long f u ms ls e = ap length (sym e) ∙ length_levels f u ms

pub stack_long : {A : Type 0} (es : List A) (ms : List ℕ) (ls : List (List A)) → cut_from es 0 ms ≡ ls → length ls ≡ suc (length ms)
stack_long es ms ls e = ap length (sym e) ∙ cut_length es 0 ms

pub stack_pop : {A : Type 0} (es less : List A) (ms slice new : List ℕ) (ls : List (List A)) (count mark : ℕ) → cut_from es 0 ms ≡ ls → Ascend 0 ms (length es) → slice ≡ ms → count < length ls → 0 < count → mark ≡ get_or ms (length slice - count) mark → less ≡ take mark es → new ≡ take (length slice - count) ms
    → (cut_from less 0 new ≡ take (length ls - count) ls) × Ascend 0 new (length less)
stack_pop {A = A} es less ms slice new ls count mark e h s lt pos m el en =
    let long = stack_long es ms ls e in
    let few = kept_within ms slice (length ls) count s long lt in
    let same = ap length s in
    let within : length slice - count < length ms = omega (arith, few, same, pos) in
    let number : suc (length slice - count) ≡ length ls - count = omega (arith, long, few, same, pos) in
    let kept = length slice - count in
    let at : mark ≡ get_or ms kept 0 = m ∙ get_or_default ms kept mark 0 within in
    let is : less ≡ take (get_or ms kept 0) es = el ∙ ap (λ (i : ℕ). take i es) at in
    let size : length less ≡ get_or ms kept 0 = ap length is ∙ length-take-le (get_or ms kept 0) es (mark_within 0 (length es) kept ms h within) in (
      ap (λ (xs : List A). cut_from xs 0 new) is ∙ ap (λ (l : List ℕ). cut_from (take (get_or ms kept 0) es) 0 l) en ∙ cut_pop es 0 kept ms h within ∙ ap (λ (l : List (List A)). take (suc kept) l) e ∙ ap (λ (i : ℕ). take i ls) number,
      subst (λ (l : List ℕ). Ascend 0 l (length less)) (sym en) (subst (λ (i : ℕ). Ascend 0 (take kept ms) i) (sym size) (ascend_cut 0 (length es) kept ms h within)),
    )

pub named_push : {A : Type 0} (f u : List A) (ms new : List ℕ) (ls : List (List A)) (n mark : ℕ) → levels_in f u ms ≡ ls → AreCut u ms → mark ≡ length u → new ≡ ms ++ replicate n mark → (levels_in f u new ≡ ls ++ replicate n []) × AreCut u new
named_push {A = A} f u ms new ls n mark e c m r =
    let g : new ≡ ms ++ replicate n (length u) = r ∙ ap (λ (k : ℕ). ms ++ replicate n k) m in (
      ap (levels_in f u) g ∙ push_levels f u ms n c ∙ ap (λ (l : List (List A)). l ++ replicate n []) e,
      subst (λ (l : List ℕ). AreCut u l) (sym g) (push_cut u ms n c),
    )

pub named_pop : {A : Type 0} (f u less : List A) (ms slice new : List ℕ) (ls : List (List A)) (count mark : ℕ) → levels_in f u ms ≡ ls → AreCut u ms → slice ≡ ms → count < length ls → 0 < count → mark ≡ get_or ms (length slice - count) mark → less ≡ take mark u → new ≡ take (length slice - count) ms
    → (levels_in f less new ≡ take (length ls - count) ls) × AreCut less new
named_pop {A = A} f u less ms slice new ls count mark e c s lt pos m el en =
    let long = levels_long f u ms ls e in
    let few = kept_within ms slice (length ls) count s long lt in
    let same = ap length s in
    let within : length slice - count < length ms = omega (arith, few, same, pos) in
    let number : suc (length slice - count) ≡ length ls - count = omega (arith, long, few, same, pos) in
    let kept = length slice - count in
    let at : mark ≡ get_or ms kept 0 = m ∙ get_or_default ms kept mark 0 within in
    let is : less ≡ take (get_or ms kept 0) u = el ∙ ap (λ (i : ℕ). take i u) at in (
      ap (λ (xs : List A). levels_in f xs new) is ∙ ap (λ (l : List ℕ). levels_in f (take (get_or ms kept 0) u) l) en ∙ pop_levels f u ms kept c within ∙ ap (λ (l : List (List A)). take (suc kept) l) e ∙ ap (λ (i : ℕ). take i ls) number,
      subst (λ (l : List ℕ). AreCut less l) (sym en) (subst (λ (xs : List A). AreCut xs (take kept ms)) (sym is) (pop_cut u ms kept c within)),
    )
