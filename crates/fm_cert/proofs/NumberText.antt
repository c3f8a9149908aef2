-- A number below 2^64 has one text: what is read as a number is its text, and its text is read as it.
use Rattle.std.proofs.Common.{◌≡◌, ℕ, zero, suc, ◌^◌, ◌<◌, ◌≤◌, ◌⊎◌, inl, inr, Bool, true, false, not, ◌&&◌, cond, List, [], ◌∷◌, length, get_or, Some, None, refl, sym, ap, subst, ◌∙◌, arith, rules}
use Rattle.std.specs.Prelude.{◌==◌, nat_lt, decimal}
use Rattle.std.specs.Char.{is_ascii_digit}
use Rattle.std.specs.List.{list_all}
use Rattle.std.specs.Str.{all_ascii_digits}
use Rattle.std.proofs.lemmas.Bool.{and_from, and_parts, cases_Bool, cond-true, ltb-true, lt-ltb, ne_eqb, not_from_false, false≢true}
use Rattle.std.proofs.lemmas.Fmt.{decimal_digit, decimal_nonempty, decimal-digits_value, digits_decimal, digits_value-decimal, first_decimal}
use Rattle.std.proofs.lemmas.Str.Parse.{IsNumeralModel, numerals_by_fold}
use Rattle.fm_cert.specs.Parts.{fitting, is_decimal, number_in, value_from}

own : IsNumeralModel (λ ds. all_ascii_digits ds ≡ true) (value_from 0)
own = numerals_by_fold _ (search rules) value_from (search rules)

fitting_some : (n k : ℕ) → fitting n ≡ Some k → (n ≡ k) × (n < 2 ^ 64)
fitting_some n k e =
    elim (cases_Bool (nat_lt n (2 ^ 64))) [
      | inl t ↦
          let some : Some n ≡ Some k = sym (cond-true (nat_lt n (2 ^ 64)) (Some n) None t) ∙ e in
          (cc some, ltb-true n (2 ^ 64) t)
      | inr f ↦ absurd (no_number n k (nat_lt n (2 ^ 64)) f e)
    ]
  where
    no_number : (n k : ℕ) (b : Bool) → b ≡ false → cond b (Some n) None ≡ Some k → ⊥
    no_number n k true f e = false≢true (sym f)
    no_number n k false f e = absurd cc

fitting_again : (n : ℕ) → n < 2 ^ 64 → fitting n ≡ Some n
fitting_again n lt = cond-true (nat_lt n (2 ^ 64)) (Some n) None (lt-ltb n (2 ^ 64) lt)

record IsDecimal (part : List ℕ) : Type 0 where
  pub digits : all_ascii_digits part ≡ true
  pub some : 0 < length part
  pub lead : get_or part 0 0 ≡ 48 → length part ≡ 1

decimal_parts : (part : List ℕ) → is_decimal part ≡ true → IsDecimal part
decimal_parts [] e = absurd (false≢true e)
decimal_parts (b ∷ []) e = record { digits = and_from (is_ascii_digit b) true e refl; some = omega arith; lead = λ h. refl }
decimal_parts (b ∷ c ∷ bs) e =
    let p = and_parts (not (b == 48)) (all_ascii_digits (b ∷ c ∷ bs)) e in
    record {
      digits = p.1;
      some = omega arith;
      lead = λ h. absurd (not_48 b p.0 h);
    }
  where
    not_48 : (b : ℕ) → not (b == 48) ≡ true → b ≡ 48 → ⊥
    not_48 b e h = let zero_first : not (48 == 48) ≡ true = subst (λ (x : ℕ). not (x == 48) ≡ true) h e in false≢true zero_first

pub number_takes : (part : List ℕ) (n : ℕ) → number_in part ≡ Some n → (part ≡ decimal n) × (n < 2 ^ 64)
number_takes part n e = by_test part n (is_decimal part) refl e
  where
    by_test : (part : List ℕ) (n : ℕ) (b : Bool) → is_decimal part ≡ b → cond b (fitting (value_from 0 part)) None ≡ Some n → (part ≡ decimal n) × (n < 2 ^ 64)
    by_test part n true t e =
        let f = fitting_some (value_from 0 part) n e in
        let d = decimal_parts part t in
        (sym (decimal-digits_value own part d.digits d.some d.lead f.1) ∙ ap decimal f.0, subst (λ (k : ℕ). k < 2 ^ 64) f.0 f.1)
    by_test part n false t e = absurd cc

is_decimal_from : (part : List ℕ) → all_ascii_digits part ≡ true → 0 < length part → (length part ≡ 1) ⊎ (48 < get_or part 0 0) → is_decimal part ≡ true
is_decimal_from [] d s h = absurd (omega arith)
is_decimal_from (b ∷ []) d s h = (and_parts (is_ascii_digit b) true d).0
is_decimal_from (b ∷ c ∷ bs) d s h =
    elim h [
      | inl one ↦ absurd (omega (arith, one))
      | inr more ↦ and_from (not (b == 48)) (all_ascii_digits (b ∷ c ∷ bs)) (not_from_false (b == 48) (ne_eqb b 48 (λ e. omega (arith, more, e)))) d
    ]

pub decimal_is : (n : ℕ) → n < 2 ^ 64 → is_decimal (decimal n) ≡ true
decimal_is zero lt = ap is_decimal (decimal_digit 0 (omega arith))
decimal_is (suc n) lt = is_decimal_from (decimal (suc n)) (digits_decimal own (suc n) lt) (decimal_nonempty (suc n) lt) (inr (first_decimal (suc n) (omega arith) lt))

pub number_again : (n : ℕ) → n < 2 ^ 64 → number_in (decimal n) ≡ Some n
number_again n lt = cond-true (is_decimal (decimal n)) (fitting (value_from 0 (decimal n))) None (decimal_is n lt) ∙ (ap fitting (digits_value-decimal own n lt) ∙ fitting_again n lt)

-- bytes of a part: neither a blank nor a line feed
abbrev pub is_plain_byte : ℕ → Bool
is_plain_byte b = not (b == 32) && not (b == 10)

abbrev pub is_plain : List ℕ → Bool
is_plain part = list_all is_plain_byte part

digit_above : (b : ℕ) → is_ascii_digit b ≡ true → 48 ≤ b
digit_above b e = search (rules, e)

digits_plain : (part : List ℕ) → all_ascii_digits part ≡ true → is_plain part ≡ true
digits_plain [] e = refl
digits_plain (b ∷ bs) e =
    let p = and_parts (is_ascii_digit b) (all_ascii_digits bs) e in
    let above = digit_above b p.0 in
    and_from (is_plain_byte b) (is_plain bs) (and_from (not (b == 32)) (not (b == 10)) (not_from_false (b == 32) (ne_eqb b 32 (λ h. omega (arith, above, h)))) (not_from_false (b == 10) (ne_eqb b 10 (λ h. omega (arith, above, h))))) (digits_plain bs p.1)

pub decimal_plain : (n : ℕ) → n < 2 ^ 64 → is_plain (decimal n) ≡ true
decimal_plain n lt = digits_plain (decimal n) (digits_decimal own n lt)

-- digits hold no comma
no_comma : (part : List ℕ) → all_ascii_digits part ≡ true → list_all (λ b. not (b == 44)) part ≡ true
no_comma [] e = refl
no_comma (b ∷ bs) e =
    let p = and_parts (is_ascii_digit b) (all_ascii_digits bs) e in
    let above = digit_above b p.0 in
    and_from (not (b == 44)) (list_all (λ c. not (c == 44)) bs) (not_from_false (b == 44) (ne_eqb b 44 (λ h. omega (arith, above, h)))) (no_comma bs p.1)

pub decimal_no_comma : (n : ℕ) → n < 2 ^ 64 → list_all (λ b. not (b == 44)) (decimal n) ≡ true
decimal_no_comma n lt = no_comma (decimal n) (digits_decimal own n lt)
