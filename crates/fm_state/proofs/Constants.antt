-- The fresh constants, sort by sort.
use Rattle.std.proofs.Common.{◌≡◌, ◌↔◌, ℕ, ◌+◌, ◌-◌, ◌<◌, ◌≤◌, Bool, true, false, cond, List, [], ◌∷◌, length, map, refl, sym, ap, ◌∙◌, arith}
use Rattle.std.specs.List.{filter, range_with_len}
use Rattle.fm_base.specs.declared.signature.Rank.{Rank}
use Rattle.fm_rounds.specs.Fresh.{constant_of}
use Rattle.fm_state.specs.Begins.{between}
use Rattle.fm_state.proofs.Starting.{between_more}

-- those of the sorts from one on
abbrev pub constants_from : (ℕ → Bool) → ℕ → ℕ → List Rank
constants_from p s n = map constant_of (filter p (between s n))

next : (p : ℕ → Bool) (s n : ℕ) (b : Bool) → s < n → p s ≡ b → constants_from p s n ≡ map constant_of (cond b (s ∷ filter p (between (s + 1) n)) (filter p (between (s + 1) n)))
next p s n b lt e = ap (λ l. map constant_of (filter p l)) (between_more s n lt) ∙ ap (λ c. map constant_of (cond c (s ∷ filter p (between (s + 1) n)) (filter p (between (s + 1) n)))) e

-- a sort that has terms
pub other_next : (p : ℕ → Bool) (s n : ℕ) (left : List Rank) (All : Type 0) → s < n → p s ≡ false → (left ≡ constants_from p s n) ↔ All → (left ≡ constants_from p (s + 1) n) ↔ All
other_next p s n left All lt e h = (λ same. h.0 (same ∙ sym (next p s n false lt e)), λ all. h.1 all ∙ next p s n false lt e)

-- one that has none, and the constant is there
pub constant_next : (p : ℕ → Bool) (s n : ℕ) (left behind : List Rank) (rank : Rank) (All : Type 0) → s < n → p s ≡ true → left ≡ rank ∷ behind → rank ≡ constant_of s
    → (left ≡ constants_from p s n) ↔ All → (behind ≡ constants_from p (s + 1) n) ↔ All
constant_next p s n left behind rank All lt e split is h =
    let there : left ≡ constant_of s ∷ behind = split ∙ ap (λ r. r ∷ behind) is in (
      λ same. h.0 (there ∙ ap (λ l. constant_of s ∷ l) same ∙ sym (next p s n true lt e)),
      λ all. let both : constant_of s ∷ behind ≡ constant_of s ∷ constants_from p (s + 1) n = sym there ∙ h.1 all ∙ next p s n true lt e in cc both,
    )

nothing : (left : List Rank) → length left ≡ 0 → left ≡ []
nothing [] e = refl
nothing (r ∷ rs) e = absurd (omega (arith, e))

-- or it isn't
pub no_rank_left : (p : ℕ → Bool) (s n : ℕ) (left : List Rank) (All : Type 0) → s < n → p s ≡ true → length left ≡ 0 → (left ≡ constants_from p s n) ↔ All → (false ≡ true) ↔ All
no_rank_left p s n left All lt e none h =
    (λ no. absurd (cc no), λ all. let both : [] ≡ constant_of s ∷ constants_from p (s + 1) n = sym (nothing left none) ∙ h.1 all ∙ next p s n true lt e in absurd (cc both))

pub other_rank_left : (p : ℕ → Bool) (s n : ℕ) (left behind : List Rank) (rank : Rank) (All : Type 0) → s < n → p s ≡ true → left ≡ rank ∷ behind → (rank ≡ constant_of s → ⊥)
    → (left ≡ constants_from p s n) ↔ All → (false ≡ true) ↔ All
other_rank_left p s n left behind rank All lt e split isnt h =
    (λ no. absurd (cc no), λ all. let both : rank ∷ behind ≡ constant_of s ∷ constants_from p (s + 1) n = sym split ∙ h.1 all ∙ next p s n true lt e in absurd (isnt (cc both)))

none_from : (p : ℕ → Bool) (s n : ℕ) → n ≤ s → constants_from p s n ≡ []
none_from p s n le = let none : n - s ≡ 0 = omega (arith, le) in ap (λ k. map constant_of (filter p (range_with_len s k))) none

-- behind the last sort nothing is left
pub all_there : (p : ℕ → Bool) (s n : ℕ) (left : List Rank) (All : Type 0) (b : Bool) → n ≤ s → (b ≡ true) ↔ (left ≡ []) → (left ≡ constants_from p s n) ↔ All → (b ≡ true) ↔ All
all_there p s n left All b le is h = (λ yes. h.0 (is.0 yes ∙ sym (none_from p s n le)), λ all. is.1 (h.1 all ∙ none_from p s n le))
