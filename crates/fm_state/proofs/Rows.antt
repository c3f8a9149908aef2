-- Size atoms that are known in a row: behind the first number that isn't known none is, and the least that isn't false.
use Rattle.std.proofs.Common.{◌≡◌, ℕ, zero, suc, ◌+◌, ◌<◌, ◌≤◌, ◌&&◌, Bool, true, false, not, cond, List, [], ◌++◌, length, drop, get_or, Some, None, inl, inr, refl, sym, ap, ◌∙◌, arith}
use Rattle.std.specs.Prelude.{Option, option_and_then}
use Rattle.std.specs.List.{flat_map, position_or_len, range_with_len}
use Rattle.std.proofs.lemmas.Bool.{cases_Bool, cases_lt, false≢true}
use Rattle.std.proofs.lemmas.List.FromFn.{get_or-range_with_len, length-range_with_len}
use Rattle.std.proofs.lemmas.List.Sums.{position_or_len_is}
use Rattle.fm_base.specs.declared.ids.Reader.{Reader}
use Rattle.fm_bank.specs.Interning.{find_atom}
use Rattle.fm_steps.specs.Bounds.{IsInRow}
use Rattle.fm_steps.specs.Lemmas.{Due, card_order, is_known, is_some_number}
use Rattle.fm_steps.specs.Menu.{card_order_at, offer_for}
use Rattle.fm_steps.specs.Rows.{Offer}
use Rattle.fm_steps.specs.Sizes.{card, holds, least_open}
use Rattle.fm_steps.specs.State.{State, value_by}
use Rattle.fm_trail.specs.Trail.{is_value}
use Rattle.fm_state.proofs.Filling.{drop_at, past_range, range_at}

unknown_later : (s : State) (u : ℕ) → IsInRow s u → (i k : ℕ) → i ≤ k → is_known s (card u i) ≡ false → is_known s (card u k) ≡ false
unknown_later s u row i k le h =
    elim (cases_Bool (is_known s (card u k))) [
      | inl t ↦
          let low : k ≤ row.top = (row.known k).0 t in
          absurd (false≢true (sym h ∙ (row.known i).1 (omega (arith, low, le))))
      | inr f ↦ f
    ]

none_at : (s : State) (u k : ℕ) → is_known s (card u k) ≡ false → card_order_at s u k ≡ []
none_at s u k h = ap (λ (b : Bool). cond (b && is_known s (card u (k + 1))) (offer_for s Reader.Sum (Due.CardOrder u k) (card_order u k)) []) h

-- by how many there are behind the place
none_from : (s : State) (u : ℕ) → IsInRow s u → (m i n : ℕ) → n ≤ i + m → is_known s (card u i) ≡ false → flat_map (card_order_at s u) (drop i (range_with_len 0 n)) ≡ []
none_from s u row zero i n le h = past_range (card_order_at s u) n i (omega (arith, le))
none_from s u row (suc m) i n le h =
    elim (cases_lt i n) [
      | inl lt ↦
          ap (flat_map (card_order_at s u)) (drop_at (range_with_len 0 n) i i (range_at n i lt))
          ∙ ap (λ (l : List Offer). l ++ flat_map (card_order_at s u) (drop (i + 1) (range_with_len 0 n))) (none_at s u i h)
          ∙ none_from s u row m (i + 1) n (omega (arith, le)) (unknown_later s u row i (i + 1) (omega arith) h)
      | inr past ↦ past_range (card_order_at s u) n i (omega (arith, past))
    ]

pub none_behind : (s : State) (u : ℕ) → IsInRow s u → (i n : ℕ) → is_known s (card u i) ≡ false → flat_map (card_order_at s u) (drop i (range_with_len 0 n)) ≡ []
none_behind s u row i n h = none_from s u row n i n (omega arith) h

pub from_nought : (k : ℕ) → 0 + k ≡ k
from_nought k = omega arith

-- the least number from 1 on whose bound isn't false
pub open_at : (s : State) (u i found : ℕ) → found ≡ i + 1 → i ≤ length s.held.atoms → ((j : ℕ) → j < i → holds s false (card u (j + 1)) ≡ true) → (i < length s.held.atoms → holds s false (card u (i + 1)) ≡ false) → found ≡ least_open s u
open_at s u i found is within before here =
    let n = length s.held.atoms in
    let xs = range_with_len 0 n in
    let test = λ (j : ℕ). not (holds s false (card u (j + 1))) in
    let element : (k : ℕ) → k < n → get_or xs k 0 ≡ k = λ k lt. get_or-range_with_len 0 n k 0 lt ∙ from_nought k in
    let long : length xs ≡ n = length-range_with_len 0 n in
    let place : position_or_len test xs ≡ i =
    position_or_len_is test xs i 0 (omega (arith, long, within))
    (λ k lt. ap test (element k (omega (arith, lt, within))) ∙ ap not (before k lt))
    (λ lt. let lt' : i < n = omega (arith, long, lt) in ap test (element i lt') ∙ ap not (here lt')) in
    is ∙ ap (λ m. m + 1) (sym place)

-- what has a value is known
known_by : (s : State) (o : Option ℕ) → is_value (option_and_then (value_by s.trail.entries) o) false ≡ true → is_some_number o ≡ true
known_by s None h = absurd (cc h)
known_by s (Some n) h = refl

-- a false bound on a sort isn't above the bound on the sum
pub false_is_low : (s : State) (u k : ℕ) (b : Bool) → IsInRow s u → b ≡ holds s false (card u k) → b ≡ true → k ≤ s.bound
false_is_low s u k b row is h =
    let top = (row.known k).0 (known_by s (find_atom s.held.atoms (card u k)) (sym is ∙ h)) in
    let low = row.low in
    omega (arith, top, low)
