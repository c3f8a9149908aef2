-- A piece isn't empty and lies within the text, and a quoted symbol has its two bars.
use Rattle.std.proofs.Common.{◌≡◌, ℕ, suc, ◌+◌, ◌-◌, ◌<◌, ◌≤◌, ◌==◌, ◌&&◌, Bool, true, false, cond, Option, Some, None, List, [], ◌∷◌, length, drop, refl, arith, length-drop, length-take}
use Rattle.std.specs.Bool.{⊤}
use Rattle.std.specs.List.{prefix_len, take_while}
use Rattle.std.proofs.lemmas.Bool.{cond_both}
use Rattle.fm_sexp.specs.declared.pieces.Shape.{Shape}
use Rattle.fm_sexp.specs.declared.pieces.Front.{Front}
use Rattle.fm_sexp.specs.Items.{bars_of}
use Rattle.fm_sexp.specs.Pieces.{is_blank, is_digit, is_symbol_byte, is_hex_digit, is_binary_digit, is_comment_byte, is_quoted_byte, is_some_of, is_numeral, is_decimal, text_from, text_front, quoted_end, quoted_front, number_front, hash_front, keyword_front, piece_of}
use Rattle.fm_sexp.proofs.Runs.{some_run, digit_in_symbols}

abbrev pub bars_in : Shape → ℕ
bars_in Shape.Blank = 0
bars_in Shape.Comment = 0
bars_in Shape.Open = 0
bars_in Shape.Close = 0
bars_in (Shape.Word kind) = bars_of kind

abbrev pub Sized : ℕ → Front → Type 0
Sized n (Front.Found p) = (0 < p.len) × (p.len ≤ n) × (bars_in p.shape ≤ p.len)
Sized n (Front.Wrong off) = off < n
Sized n Front.Unclosed = ⊤

run_within : (p : ℕ → Bool) (xs : List ℕ) → length (take_while p xs) ≤ length xs
run_within p xs = omega (arith, length-take (prefix_len p xs) xs)

text_within : (n : ℕ) (paired : Bool) (bs : List ℕ) (m : ℕ) → text_from n paired bs ≡ Some m → m ≤ n + length bs
text_within n true [] m e = let same : n ≡ m = cc e in omega arith
text_within n false [] m e = absurd (cc e)
text_within n true (b ∷ bs) m e = by (b == 34) e (λ k. text_within (n + 1) false bs m k)
  where
    by : (t : Bool) → cond t (text_from (n + 1) false bs) (Some n) ≡ Some m → (text_from (n + 1) false bs ≡ Some m → m ≤ n + 1 + length bs) → m ≤ n + length (b ∷ bs)
    by true k rest = let le : m ≤ n + 1 + length bs = rest k in omega arith
    by false k rest = let same : n ≡ m = cc k in omega arith
text_within n false (b ∷ bs) m e = let le : m ≤ n + 1 + length bs = text_within (n + 1) (b == 34) bs m e in omega arith

text_sized : (bs : List ℕ) (o : Option ℕ) → text_from 0 false bs ≡ o → Sized (suc (length bs)) (text_front o)
text_sized bs None e = tt
text_sized bs (Some m) e = let le : m ≤ 0 + length bs = text_within 0 false bs m e in (omega arith, omega arith, omega arith)

end_sized : (n len : ℕ) (bs : List ℕ) → len + length bs ≤ n → Sized (suc n) (quoted_end len bs)
end_sized n len [] le = tt
end_sized n len (b ∷ bs) le = cond_both (b == 124) _ _ (Sized (suc n)) (λ e. (omega arith, omega arith, omega arith)) (λ e. omega arith)

quoted_sized : (bs : List ℕ) → Sized (suc (length bs)) (quoted_front bs)
quoted_sized bs =
    let len : ℕ = length (take_while is_quoted_byte bs) in
    let le : len ≤ length bs = run_within is_quoted_byte bs in
    let left : length (drop len bs) ≡ length bs - len = length-drop len bs in
    end_sized (length bs) len (drop len bs) (omega arith)

keyword_sized : (w : List ℕ) (n : ℕ) → length w ≤ n → Sized (suc n) (keyword_front w)
keyword_sized [] n le = omega arith
keyword_sized (b ∷ bs) n le = (omega arith, omega arith, omega arith)

hash_sized : (w : List ℕ) (n : ℕ) → length w ≤ n → Sized (suc n) (hash_front w)
unfolding hash_front
hash_sized [] n le = omega arith
hash_sized (b ∷ bs) n le =
    cond_both (b == 120 && is_some_of is_hex_digit bs) _ _ (Sized (suc n)) (λ e. (omega arith, omega arith, omega arith))
    (λ e. cond_both (b == 98 && is_some_of is_binary_digit bs) _ _ (Sized (suc n)) (λ k. (omega arith, omega arith, omega arith)) (λ k. omega arith))

number_sized : (w : List ℕ) (n : ℕ) → 0 < length w → length w ≤ n → Sized n (number_front w)
number_sized w n lt le =
    cond_both (is_numeral w) _ _ (Sized n) (λ e. (lt, le, omega arith))
    (λ e. cond_both (is_decimal w) _ _ (Sized n) (λ k. (lt, le, omega arith)) (λ k. omega arith))

pub sized : (text : List ℕ) → Sized (length text) (piece_of text)
unfolding piece_of
sized [] = tt
sized (b ∷ bs) =
    let all : ℕ = suc (length bs) in
    cond_both (is_blank b) _ _ (Sized all) (λ e. (omega arith, omega arith, omega arith))
    (λ e. cond_both (b == 40) _ _ (Sized all) (λ e. (omega arith, omega arith, omega arith))
    (λ e. cond_both (b == 41) _ _ (Sized all) (λ e. (omega arith, omega arith, omega arith))
    (λ e. cond_both (b == 59) _ _ (Sized all) (λ e. let le = run_within is_comment_byte bs in (omega arith, omega arith, omega arith))
    (λ e. cond_both (b == 34) _ _ (Sized all) (λ e. text_sized bs (text_from 0 false bs) refl)
    (λ e. cond_both (b == 124) _ _ (Sized all) (λ e. quoted_sized bs)
    (λ e. cond_both (b == 58) _ _ (Sized all) (λ e. keyword_sized (take_while is_symbol_byte bs) (length bs) (run_within is_symbol_byte bs))
    (λ e. cond_both (b == 35) _ _ (Sized all) (λ e. hash_sized (take_while is_symbol_byte bs) (length bs) (run_within is_symbol_byte bs))
    (λ e. cond_both (is_digit b) _ _ (Sized all) (λ e. number_sized _ all (some_run is_symbol_byte (b ∷ bs) _ b bs refl refl (digit_in_symbols b e)) (run_within is_symbol_byte (b ∷ bs)))
    (λ e. cond_both (is_symbol_byte b) _ _ (Sized all) (λ e. (some_run is_symbol_byte (b ∷ bs) _ b bs refl refl e, run_within is_symbol_byte (b ∷ bs), omega arith))
    (λ e. omega arith))))))))))
