-- The first sum lemma.
use Rattle.std.proofs.Common.{◌≡◌, ℕ, zero, suc, ◌+◌, ◌-◌, ◌≤◌, true, false, nat_lt, List, [], ◌∷◌, ◌++◌, map, refl, ap, arith}
use Rattle.std.specs.List.{list_all, range_with_len}
use Rattle.std.proofs.lemmas.Bool.{and_from, lt-ltb, true≢false}
use Rattle.fm_base.specs.Resolution.{AreDistinct}
use Rattle.fm_base.specs.declared.signature.Sig.{Sig}
use Rattle.fm_base.proofs.Resolution.{mapped_has}
use Rattle.fm_bank.specs.Interning.{is_atom}
use Rattle.fm_bank.specs.Terms.{Term}
use Rattle.fm_bank.specs.declared.atom.Atom.{Atom}
use Rattle.fm_bank.specs.declared.literal.Literal.{Literal}
use Rattle.fm_rounds.proofs.Members.{in_range}
use Rattle.fm_steps.specs.Sizes.{card, lit}
use Rattle.fm_steps.proofs.Lists.{distinct_push}

abbrev cards : ℕ → ℕ → List Literal
cards a n = map (λ (u : ℕ). lit true (card u 0)) (range_with_len a n)

abbrev pub sum_lits : ℕ → List Literal
sum_lits m = cards 0 m ++ lit false (Atom.Bound (m - 1)) ∷ []

abbrev sort_in : Atom → ℕ
sort_in (Atom.Card u k) = u.0
sort_in (Atom.Equal a b) = 0
sort_in (Atom.Pred t) = 0
sort_in (Atom.Bound n) = 0

cards_distinct : (a n : ℕ) → AreDistinct (cards a n)
cards_distinct a zero = tt
cards_distinct a (suc n) = (
  (λ q. let w = mapped_has (λ (u : ℕ). lit true (card u 0)) (range_with_len (a + 1) n) (lit true (card a 0)) q in
      let low = (in_range w.lit (a + 1) n w.has).0 in
      let same : w.lit ≡ a = ap (λ (l : Literal). sort_in l.atom) w.is in
      absurd (omega (arith, low, same))),
  cards_distinct (a + 1) n,
)

pub sum_distinct : (m : ℕ) → AreDistinct (sum_lits m)
sum_distinct m =
    let last : Literal = lit false (Atom.Bound (m - 1)) in
    distinct_push (cards 0 m) last (cards_distinct 0 m) (λ q. let w = mapped_has (λ (u : ℕ). lit true (card u 0)) (range_with_len 0 m) last q in true≢false (ap (λ (l : Literal). l.positive) w.is))

module _ (sig : Sig) (terms : List Term) (k : ℕ) where
  cards_atoms : (a n : ℕ) → a + n ≤ sig.sorts → list_all (λ (l : Literal). is_atom sig terms l.atom) (cards a n ++ lit false (Atom.Bound k) ∷ []) ≡ true
  cards_atoms a zero le = refl
  cards_atoms a (suc n) le = and_from (nat_lt a sig.sorts) (list_all (λ (l : Literal). is_atom sig terms l.atom) (cards (a + 1) n ++ lit false (Atom.Bound k) ∷ [])) (lt-ltb a sig.sorts (omega (arith, le))) (cards_atoms (a + 1) n (omega (arith, le)))

pub sum_atoms : (sig : Sig) (terms : List Term) (m : ℕ) → m ≡ sig.sorts → list_all (λ (l : Literal). is_atom sig terms l.atom) (sum_lits m) ≡ true
sum_atoms sig terms m e = cards_atoms sig terms (m - 1) 0 m (omega (arith, e))
