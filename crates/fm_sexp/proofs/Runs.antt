-- Longest runs at the front of a list.
use Rattle.std.proofs.Common.{◌≡◌, ℕ, ◌+◌, ◌<◌, Bool, true, List, ◌∷◌, take, length, ap, ◌∙◌, arith}
use Rattle.std.specs.List.{prefix_len, take_while}
use Rattle.std.proofs.lemmas.Bool.{cond-true, or_left, or_right}
use Rattle.fm_sexp.specs.Pieces.{is_digit, is_symbol_byte}
use Rattle.std.proofs.lemmas.List.Folds.{length-prefix_len}

pub take_run : (p : ℕ → Bool) (xs : List ℕ) (n : ℕ) → n ≡ length (take_while p xs) → take n xs ≡ take_while p xs
take_run p xs n e = ap (λ k. take k xs) (e ∙ length-prefix_len p xs)

-- a run is not empty where its first byte is in it
pub some_run : (p : ℕ → Bool) (text run : List ℕ) (b : ℕ) (bs : List ℕ) → text ≡ b ∷ bs → run ≡ take_while p text → p b ≡ true → 0 < length run
some_run p text run b bs e is holds =
    let len : length run ≡ prefix_len p (b ∷ bs) = ap length is ∙ length-prefix_len p text ∙ ap (prefix_len p) e in
    let one : prefix_len p (b ∷ bs) ≡ 1 + prefix_len p bs = cond-true (p b) _ _ holds in omega arith

pub digit_in_symbols : (b : ℕ) → is_digit b ≡ true → is_symbol_byte b ≡ true
unfolding is_symbol_byte
digit_in_symbols b e = or_left _ _ (or_right _ _ e)
