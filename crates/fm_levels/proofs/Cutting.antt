-- Levels as cuts of one list.
use Rattle.std.proofs.Common.{map, Bool, true, false, ◌≡◌, ℕ, zero, suc, ◌+◌, ◌-◌, ◌<◌, ◌≤◌, List, [], ◌∷◌, ◌++◌, length, take, drop, get_or, replicate, ap, refl, sym, subst, ◌∙◌, arith}
use Rattle.std.proofs.lemmas.List.{drop-append-le, take-append-le, take-append-drop, drop-drop, drop-take, take-take, take_all, drop_all, length-drop, length-append, get_or_default, length_push, length-take-le, append-nil}
use Rattle.fm_levels.specs.Levels.{in_newest, joined}
use Rattle.fm_levels.specs.Cuts.{Ascend, cut_from}

pub ascend_end : (start end : ℕ) (ms : List ℕ) → Ascend start ms end → start ≤ end
ascend_end start end [] h = h
ascend_end start end (m ∷ ms) h = let a = h.0 in let b = ascend_end m end ms h.1 in omega (arith, a, b)

pub ascend_longer : (start end more : ℕ) (ms : List ℕ) → Ascend start ms end → end ≤ more → Ascend start ms more
ascend_longer start end more [] h le = omega (arith, h, le)
ascend_longer start end more (m ∷ ms) h le = (h.0, ascend_longer m end more ms h.1 le)

pub newest_behind : {A : Type 0} (l : List A) (es : List A) (m : ℕ) (ms : List ℕ) (x : A) → in_newest (l ∷ cut_from es m ms) x ≡ l ∷ in_newest (cut_from es m ms) x
newest_behind l es m [] x = refl
newest_behind l es m (k ∷ ms) x = refl

-- an entry in the newest level
pub cut_entry : {A : Type 0} (es : List A) (x : A) (start : ℕ) (ms : List ℕ) → Ascend start ms (length es) → cut_from (es ++ x ∷ []) start ms ≡ in_newest (cut_from es start ms) x
cut_entry {A = A} es x start [] h = ap (λ (l : List A). l ∷ []) (drop-append-le start es (x ∷ []) h)
cut_entry {A = A} es x start (m ∷ ms) h =
    let a = h.0 in
    let b = ascend_end m (length es) ms h.1 in
    let d = length-drop start es in
    let le : m - start ≤ length (drop start es) = omega (arith, a, b, d) in
    let head : take (m - start) (drop start (es ++ x ∷ [])) ≡ take (m - start) (drop start es) = ap (take (m - start)) (drop-append-le start es (x ∷ []) (omega (arith, a, b))) ∙ take-append-le (m - start) (drop start es) (x ∷ []) le in
    ap (λ (l : List A). l ∷ cut_from (es ++ x ∷ []) m ms) head ∙ ap (λ (ls : List (List A)). take (m - start) (drop start es) ∷ ls) (cut_entry es x m ms h.1) ∙ sym (newest_behind (take (m - start) (drop start es)) es m ms x)

-- empty levels
pub empty_levels : {A : Type 0} (es : List A) (n : ℕ) → cut_from es (length es) (replicate n (length es)) ≡ [] ∷ replicate n []
empty_levels {A = A} es zero = ap (λ (l : List A). l ∷ []) (drop_all (length es) es (omega arith))
empty_levels {A = A} es (suc n) =
    let z : length es - length es ≡ 0 = omega arith in
    ap (λ (k : ℕ). take k (drop (length es) es) ∷ cut_from es (length es) (replicate n (length es))) z ∙ ap (λ (ls : List (List A)). [] ∷ ls) (empty_levels es n)

pub cut_push : {A : Type 0} (es : List A) (n start : ℕ) (ms : List ℕ) → Ascend start ms (length es) → cut_from es start (ms ++ replicate n (length es)) ≡ cut_from es start ms ++ replicate n []
cut_push es zero start [] h = refl
cut_push {A = A} es (suc n) start [] h =
    let d = length-drop start es in
    ap (λ (l : List A). l ∷ cut_from es (length es) (replicate n (length es))) (take_all (length es - start) (drop start es) (omega (arith, d))) ∙ ap (λ (ls : List (List A)). drop start es ∷ ls) (empty_levels es n)
cut_push {A = A} es n start (m ∷ ms) h = ap (λ (ls : List (List A)). take (m - start) (drop start es) ∷ ls) (cut_push es n m ms h.1)

pub ascend_push : (end n start : ℕ) (ms : List ℕ) → Ascend start ms end → Ascend start (ms ++ replicate n end) end
ascend_push end zero start [] h = h
ascend_push end (suc n) start [] h = (h, ascend_push end n end [] (let k : end ≤ end = omega arith in k))
ascend_push end n start (m ∷ ms) h = (h.0, ascend_push end n m ms h.1)

-- closing levels
pub mark_after : (start end k : ℕ) (ms : List ℕ) → Ascend start ms end → k < length ms → start ≤ get_or ms k 0
mark_after start end k [] h lt = absurd (omega (arith, lt))
mark_after start end zero (m ∷ ms) h lt = h.0
mark_after start end (suc k) (m ∷ ms) h lt = let a = h.0 in let b = mark_after m end k ms h.1 (omega (arith, lt)) in omega (arith, a, b)

pub mark_within : (start end k : ℕ) (ms : List ℕ) → Ascend start ms end → k < length ms → get_or ms k 0 ≤ end
mark_within start end k [] h lt = absurd (omega (arith, lt))
mark_within start end zero (m ∷ ms) h lt = ascend_end m end ms h.1
mark_within start end (suc k) (m ∷ ms) h lt = mark_within m end k ms h.1 (omega (arith, lt))

pub ascend_cut : (start end k : ℕ) (ms : List ℕ) → Ascend start ms end → k < length ms → Ascend start (take k ms) (get_or ms k 0)
ascend_cut start end k [] h lt = absurd (omega (arith, lt))
ascend_cut start end zero (m ∷ ms) h lt = h.0
ascend_cut start end (suc k) (m ∷ ms) h lt = (h.0, ascend_cut m end k ms h.1 (omega (arith, lt)))

pub part_of_cut : {A : Type 0} (es : List A) (start m : ℕ) → start ≤ m → drop start (take m es) ≡ take (m - start) (drop start es)
part_of_cut es start m le =
    let e : start + (m - start) ≡ m = omega (arith, le) in
    ap (λ (k : ℕ). drop start (take k es)) (sym e) ∙ drop-take start (m - start) es

pub cut_pop : {A : Type 0} (es : List A) (start k : ℕ) (ms : List ℕ) → Ascend start ms (length es) → k < length ms → cut_from (take (get_or ms k 0) es) start (take k ms) ≡ take (suc k) (cut_from es start ms)
cut_pop es start k [] h lt = absurd (omega (arith, lt))
cut_pop {A = A} es start zero (m ∷ ms) h lt = ap (λ (l : List A). l ∷ []) (part_of_cut es start m h.0)
cut_pop {A = A} es start (suc k) (m ∷ ms) h lt =
    let mark = get_or ms k 0 in
    let a = h.0 in
    let b = mark_after m (length es) k ms h.1 (omega (arith, lt)) in
    let head : take (m - start) (drop start (take mark es)) ≡ take (m - start) (drop start es) = ap (take (m - start)) (part_of_cut es start mark (omega (arith, a, b))) ∙ take-take (m - start) (mark - start) (drop start es) (omega (arith, b)) in
    ap (λ (l : List A). l ∷ cut_from (take mark es) m (take k ms)) head ∙ ap (λ (ls : List (List A)). take (m - start) (drop start es) ∷ ls) (cut_pop es m k ms h.1 (omega (arith, lt)))

pub cut_length : {A : Type 0} (es : List A) (start : ℕ) (ms : List ℕ) → length (cut_from es start ms) ≡ suc (length ms)
cut_length es start [] = refl
cut_length es start (m ∷ ms) = ap suc (cut_length es m ms)

-- all levels joined are all entries
pub cut_joined : {A : Type 0} (es : List A) (start : ℕ) (ms : List ℕ) → Ascend start ms (length es) → joined (cut_from es start ms) ≡ drop start es
cut_joined es start [] h = append-nil (drop start es)
cut_joined {A = A} es start (m ∷ ms) h =
    let a = h.0 in
    let e : start + (m - start) ≡ m = omega (arith, a) in
    let behind : drop m es ≡ drop (m - start) (drop start es) = ap (λ (k : ℕ). drop k es) (sym e) ∙ sym (drop-drop (m - start) start es) in
    ap (λ (l : List A). take (m - start) (drop start es) ++ l) (cut_joined es m ms h.1 ∙ behind) ∙ take-append-drop (m - start) (drop start es)
