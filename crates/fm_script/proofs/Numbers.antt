-- A number only grows by further digits.
use Rattle.std.proofs.Common.{◌≡◌, ℕ, ◌+◌, ◌-◌, ◌*◌, ◌^◌, ◌<◌, ◌≤◌, true, List, [], ◌∷◌, ◌++◌, map, length, drop, get_or, Some, None, refl, sym, subst, ap, ◌∙◌, arith, inl, inr}
use Rattle.std.specs.Prelude.{nat_lt}
use Rattle.std.proofs.lemmas.Bool.{cases_Bool, ltb-false, le-ltb, cond-true, cond-false, and_from, and_parts}
use Rattle.fm_sexp.specs.Items.{spans_within}
use Rattle.fm_sexp.specs.declared.items.Sexp.{Sexp}
use Rattle.fm_script.specs.Shown.{Name}
use Rattle.fm_script.specs.Within.{parameters_within}
use Rattle.std.proofs.lemmas.List.{drop_more}
use Rattle.fm_script.specs.Commands.{decimal_from}
use Rattle.fm_script.specs.Numerals.{fitting}

pub decimal_from-grows : (n : ℕ) (ds : List ℕ) → n ≤ decimal_from n ds
decimal_from-grows n [] = omega arith
decimal_from-grows n (d ∷ ds) =
    let h = decimal_from-grows (n * 10 + (d - 48)) ds in
    omega (arith, h)

pub fitting-none : (n : ℕ) → None ≡ fitting n → 2 ^ 64 ≤ n
fitting-none n e =
    elim (cases_Bool (nat_lt n (2 ^ 64))) [
      | inl t ↦ let some : fitting n ≡ Some n = cond-true (nat_lt n (2 ^ 64)) (Some n) None t in absurd (cc (e ∙ some))
      | inr f ↦ ltb-false n (2 ^ 64) f
    ]

pub none-fitting : (n : ℕ) → 2 ^ 64 ≤ n → None ≡ fitting n
none-fitting n le = sym (cond-false (nat_lt n (2 ^ 64)) (Some n) None (le-ltb n (2 ^ 64) le))

pub stays_wide : (digits : List ℕ) (i sum d : ℕ) → i < length digits → decimal_from sum (drop i digits) ≡ decimal_from 0 digits → None ≡ fitting (sum * 10 + (get_or digits i d - 48)) → None ≡ fitting (decimal_from 0 digits)
stays_wide digits i sum d lt same wide =
    let next = fitting-none (sum * 10 + (get_or digits i d - 48)) wide in
    let there : decimal_from sum (drop i digits) ≡ decimal_from (sum * 10 + (get_or digits i d - 48)) (drop (i + 1) digits) = ap (λ ds. decimal_from sum ds) (drop_more digits i d lt) in
    let grows = decimal_from-grows (sum * 10 + (get_or digits i d - 48)) (drop (i + 1) digits) in
    none-fitting (decimal_from 0 digits) (subst (λ (n : ℕ). 2 ^ 64 ≤ n) (sym there ∙ same) (omega (arith, next, grows)))

-- one more parameter
pub parameters_push : {X : Type 0} (n : ℕ) (f : X → Name × Sexp) (xs : List X) (x : X) → parameters_within n (map f xs) ≡ true → spans_within n (f x).1 ≡ true → parameters_within n (map f (xs ++ x ∷ [])) ≡ true
parameters_push n f [] x h e = and_from (spans_within n (f x).1) true e refl
parameters_push n f (y ∷ xs) x h e =
    let parts = and_parts (spans_within n (f y).1) (parameters_within n (map f xs)) h in
    and_from (spans_within n (f y).1) (parameters_within n (map f (xs ++ x ∷ []))) parts.0 (parameters_push n f xs x parts.1 e)
