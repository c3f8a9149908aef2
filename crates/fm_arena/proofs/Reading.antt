-- A number in an arena reads as its node over the entries before it.
use Rattle.std.proofs.Common.{◌≡◌, ℕ, zero, suc, ◌<◌, ◌≤◌, List, [], ◌∷◌, ◌++◌, length, take, drop, ap, refl, sym, ◌∙◌, arith, append_assoc, append-nil}
use Rattle.std.specs.Prelude.{slice_get, Some}
use Rattle.std.proofs.lemmas.List.{take-append-drop, length-take-le}
use Rattle.fm_arena.specs.Meanings.{Term, absent, meaning_in, meaning_at, meaning_of, term_of, terms_after, terms_of}
use Rattle.fm_arena.specs.declared.node.Entry.{Entry}
use Rattle.fm_arena.proofs.Growing.{length_terms}

pub after_append : (ts : List Term) (xs ys : List Entry) → terms_after ts (xs ++ ys) ≡ terms_after (terms_after ts xs) ys
after_append ts [] ys = refl
after_append ts (x ∷ xs) ys = after_append (ts ++ term_of ts x ∷ []) xs ys

pub after_grows : (ts : List Term) (es : List Entry) → (more : List Term) × (terms_after ts es ≡ ts ++ more)
after_grows ts [] = ([], sym (append-nil ts))
after_grows ts (e ∷ es) =
    let h = after_grows (ts ++ term_of ts e ∷ []) es in
    (term_of ts e ∷ h.0, h.1 ∙ append_assoc ts (term_of ts e ∷ []) h.0)

pub at_length : {A : Type 0} (xs ys : List A) (x : A) → slice_get (xs ++ x ∷ ys) (length xs) ≡ Some x
at_length [] ys x = refl
at_length (y ∷ xs) ys x = at_length xs ys x

read_split : (before rest : List Entry) (e : Entry) → meaning_at (terms_of (before ++ e ∷ rest)) (length before) ≡ meaning_of (terms_of before) e.node
read_split before rest e =
    let ts = terms_of before in
    let g = after_grows (ts ++ term_of ts e ∷ []) rest in
    let all : terms_of (before ++ e ∷ rest) ≡ ts ++ term_of ts e ∷ g.0 = after_append [] before (e ∷ rest) ∙ g.1 ∙ append_assoc ts (term_of ts e ∷ []) g.0 in
    ap (λ (l : List Term). meaning_at l (length before)) all ∙ ap (λ (n : ℕ). meaning_at (ts ++ term_of ts e ∷ g.0) n) (sym (length_terms before)) ∙ ap meaning_in (at_length ts g.0 (term_of ts e))

-- what a loop or a split of the code reads
pub read_at : (es before rest tail : List Entry) (n : ℕ) (e : Entry) → n < length es → before ≡ take n es → rest ≡ drop n es → rest ≡ e ∷ tail → meaning_at (terms_of es) n ≡ meaning_of (terms_of before) e.node
read_at es before rest tail n e lt b r t =
    let whole : es ≡ before ++ e ∷ tail = sym (take-append-drop n es) ∙ ap (λ (l : List Entry). l ++ drop n es) (sym b) ∙ ap (λ (l : List Entry). before ++ l) (sym r ∙ t) in
    let size : n ≡ length before = sym (ap length b ∙ length-take-le n es (omega (arith, lt))) in
    ap (λ (l : List Entry). meaning_at (terms_of l) n) whole ∙ ap (λ (k : ℕ). meaning_at (terms_of (before ++ e ∷ tail)) k) size ∙ read_split before tail e

past_end : (ts : List Term) (n : ℕ) → length ts ≤ n → meaning_at ts n ≡ absent
past_end [] n le = refl
past_end (t ∷ ts) zero le = absurd (omega (arith, le))
past_end (t ∷ ts) (suc n) le = past_end ts n (omega (arith, le))

pub read_past : (es : List Entry) (n : ℕ) → length es ≤ n → meaning_at (terms_of es) n ≡ absent
read_past es n le = let l = length_terms es in past_end (terms_of es) n (omega (arith, le, l))
