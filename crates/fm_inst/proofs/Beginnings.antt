-- A search by beginnings: where all tuples that begin alike pass, what is left of the search is what stands behind them.
use Rattle.std.proofs.Common.{set, ◌≡◌, ℕ, suc, ◌+◌, ◌-◌, ◌<◌, ◌≤◌, Bool, true, false, cond, List, [], ◌∷◌, ◌++◌, length, map, take, get_or, Some, None, refl, sym, subst, ap, ◌∙◌, arith}
use Rattle.std.specs.Option.{option_or}
use Rattle.std.specs.List.{find}
use Rattle.std.proofs.lemmas.List.{length-append, length-map, length-take-le, take_more, take_more_set}
use Rattle.std.proofs.lemmas.List.Folds.{find-append}
use Rattle.fm_rounds.specs.Tuples.{from_first, tuples}
use Rattle.fm_inst.specs.Prefixes.{AreSome, beyond, rest}
use Rattle.fm_rounds.proofs.LeastTuple.{behind, find_map}

find_none : (p : List ℕ → Bool) (xs : List (List ℕ)) → ((x : List ℕ) → p x ≡ false) → find p xs ≡ None
find_none p [] h = refl
find_none p (x ∷ xs) h = ap (λ b. cond b (Some x) (find p xs)) (h x) ∙ find_none p xs h

pub skip : (p : List ℕ → Bool) (ns xs : List ℕ) → ((ys : List ℕ) → p (xs ++ ys) ≡ false) → find p (rest ns xs) ≡ find p (beyond ns xs)
skip p ns [] h = find_none p (tuples ns) h
skip p [] (x ∷ xs) h = refl
skip p (n ∷ ns) (x ∷ xs) h =
    let more = from_first ns (x + 1) (n - (x + 1)) in
    let inner = skip (λ zs. p (x ∷ zs)) ns xs h in
    find-append p (map (λ ys. x ∷ ys) (rest ns xs)) more
    ∙ ap (λ o. option_or o (find p more)) (find_map p x (rest ns xs) ∙ ap (behind x) inner ∙ sym (find_map p x (beyond ns xs)))
    ∙ sym (find-append p (map (λ ys. x ∷ ys) (beyond ns xs)) more)

pub hit : (p : List ℕ → Bool) (ns xs : List ℕ) → length xs ≡ length ns → p xs ≡ true → find p (rest ns xs) ≡ Some xs
hit p [] [] e h = ap (λ b. cond b (Some []) None) h
hit p (n ∷ ns) [] e h = absurd (omega (arith, e))
hit p [] (x ∷ xs) e h = absurd (omega (arith, e))
hit p (n ∷ ns) (x ∷ xs) e h =
    let more = from_first ns (x + 1) (n - (x + 1)) in
    find-append p (map (λ ys. x ∷ ys) (rest ns xs)) more
    ∙ ap (λ o. option_or o (find p more)) (find_map p x (rest ns xs) ∙ ap (behind x) (hit (λ zs. p (x ∷ zs)) ns xs (omega (arith, e)) h))

first_one : (ns : List ℕ) (a k c : ℕ) → k ≡ suc c → from_first ns a k ≡ map (λ ys. a ∷ ys) (tuples ns) ++ from_first ns (a + 1) c
first_one ns a k c e = subst (λ i. from_first ns a i ≡ map (λ ys. a ∷ ys) (tuples ns) ++ from_first ns (a + 1) c) (sym e) refl

none_left : (ns : List ℕ) (a k : ℕ) → k ≡ 0 → from_first ns a k ≡ []
none_left ns a k e = ap (from_first ns a) e

pub enter : (ns xs : List ℕ) → length xs < length ns → 1 ≤ get_or ns (length xs) 0 → rest ns (xs ++ 0 ∷ []) ≡ rest ns xs
enter [] xs lt one = absurd (omega arith)
enter (n ∷ ns) [] lt one = sym (first_one ns 0 n (n - 1) (omega (arith, one)))
enter (n ∷ ns) (x ∷ xs) lt one = ap (λ l. map (λ ys. x ∷ ys) l ++ from_first ns (x + 1) (n - (x + 1))) (enter ns xs (omega arith) one)

pub grow : (ns xs : List ℕ) (x : ℕ) → length xs < length ns → x + 1 < get_or ns (length xs) 0 → beyond ns (xs ++ x ∷ []) ≡ rest ns (xs ++ (x + 1) ∷ [])
grow [] xs x lt one = absurd (omega arith)
grow (n ∷ ns) [] x lt one = first_one ns (x + 1) (n - (x + 1)) (n - (x + 1 + 1)) (omega (arith, one))
grow (n ∷ ns) (y ∷ xs) x lt one = ap (λ l. map (λ ys. y ∷ ys) l ++ from_first ns (y + 1) (n - (y + 1))) (grow ns xs x (omega arith) one)

pub leave : (ns xs : List ℕ) (x : ℕ) → length xs < length ns → get_or ns (length xs) 0 ≤ x + 1 → beyond ns (xs ++ x ∷ []) ≡ beyond ns xs
leave [] xs x lt le = absurd (omega arith)
leave (n ∷ ns) [] x lt le = none_left ns (x + 1) (n - (x + 1)) (omega (arith, le))
leave (n ∷ ns) (y ∷ xs) x lt le = ap (λ l. map (λ ys. y ∷ ys) l ++ from_first ns (y + 1) (n - (y + 1))) (leave ns xs x (omega arith) le)

some_tuple : (ns : List ℕ) → AreSome ns → 1 ≤ length (tuples ns)
some_tuple [] h = omega arith
some_tuple (n ∷ ns) (one, h) =
    let more = from_first ns 1 (n - 1) in
    let e : length (tuples (n ∷ ns)) ≡ length (tuples ns) + length more = ap length (first_one ns 0 n (n - 1) (omega (arith, one))) ∙ length-append (map (λ ys. 0 ∷ ys) (tuples ns)) more ∙ ap (λ k. k + length more) (length-map (tuples ns) (λ ys. 0 ∷ ys)) in
    omega (arith, e, some_tuple ns h)

pub fewer : (ns xs : List ℕ) → AreSome ns → length xs ≤ length ns → length (beyond ns xs) < length (rest ns xs)
fewer ns [] h le = omega (arith, some_tuple ns h)
fewer [] (x ∷ xs) h le = absurd (omega arith)
fewer (n ∷ ns) (x ∷ xs) (one, h) le =
    let more = from_first ns (x + 1) (n - (x + 1)) in
    let a = length-append (map (λ ys. x ∷ ys) (beyond ns xs)) more ∙ ap (λ k. k + length more) (length-map (beyond ns xs) (λ ys. x ∷ ys)) in
    let b = length-append (map (λ ys. x ∷ ys) (rest ns xs)) more ∙ ap (λ k. k + length more) (length-map (rest ns xs) (λ ys. x ∷ ys)) in
    omega (arith, a, b, fewer ns xs h (omega arith))

-- the same at a place of a buffer of which the first numbers begin the tuple
pub grow_at : (ns env : List ℕ) (k : ℕ) → k < length ns → length env ≡ length ns → get_or env k 0 + 1 < get_or ns k 0 → rest ns (take (k + 1) (set env k (get_or env k 0 + 1))) ≡ beyond ns (take (k + 1) env)
grow_at ns env k lt len more =
    let x = get_or env k 0 in
    let n : length (take k env) ≡ k = length-take-le k env (omega (arith, len)) in
    let g = grow ns (take k env) x (omega (arith, n)) (subst (λ i. x + 1 < get_or ns i 0) (sym n) more) in
    ap (rest ns) (take_more_set env k (x + 1) (omega (arith, len))) ∙ sym g ∙ ap (beyond ns) (sym (take_more env k 0 (omega (arith, len))))

pub leave_at : (ns env : List ℕ) (k : ℕ) → k < length ns → length env ≡ length ns → get_or ns k 0 ≤ get_or env k 0 + 1 → beyond ns (take (k + 1) env) ≡ beyond ns (take k env)
leave_at ns env k lt len le =
    let x = get_or env k 0 in
    let n : length (take k env) ≡ k = length-take-le k env (omega (arith, len)) in
    ap (beyond ns) (take_more env k 0 (omega (arith, len))) ∙ leave ns (take k env) x (omega (arith, n)) (subst (λ i. get_or ns i 0 ≤ x + 1) (sym n) le)
