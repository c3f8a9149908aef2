-- Groups of offers as they are put behind one another, and what the fields of a state say for them.
use Rattle.std.specs.Prelude.{◌≡◌, ℕ, ◌<◌, ◌==◌, ◌||◌, ◌&&◌, nat_lt, length, slice_get, Bool, true, false, if◌then◌else◌, List, [], ◌∷◌, ◌++◌, take, Option, Some, None}
use Rattle.std.specs.List.{flat_map, list_any, range_with_len}
use Rattle.fm_base.specs.declared.ids.Lit.{Lit}
use Rattle.fm_base.specs.declared.ids.Reader.{Reader}
use Rattle.fm_bank.specs.declared.literal.Literal.{Literal}
use Rattle.fm_bank.specs.declared.atom.Atom.{Atom}
use Rattle.fm_trail.specs.Trail.{head_of}
use Rattle.fm_steps.specs.Rows.{Offer}
use Rattle.fm_steps.specs.Sizes.{is_unvalued, lit}
use Rattle.fm_steps.specs.Menu.{card_order_at, free_decisions, is_wanted, size_decisions, split_offers}
use Rattle.fm_steps.specs.State.{Clause, Pick, State}
use Rattle.fm_state.specs.Offers.{offers_in}
use Rattle.fm_state.specs.declared.offer.Offer.{Offer as TheOffer}

-- the group is put behind what was there, or as much of it that the limit is reached
abbrev pub IsPutBehind : ℕ → List TheOffer → List TheOffer → List Offer → Type 0
IsPutBehind limit old new group = take limit (offers_in new) ≡ take limit (offers_in old ++ group)

-- what there is, or none
abbrev pub listed : {A : Type 0} → Option A → List A
listed None = []
listed (Some n) = n ∷ []

-- whether a lemma with these literals that aren't false is to imply one; none where it is neither false nor unit
abbrev pub asks_for : State → List Literal → Option Bool
asks_for s [] = Some false
asks_for s (l ∷ []) = if is_unvalued s l.atom then Some true else None
asks_for s (l ∷ (k ∷ ks)) = None

-- the terms of a pick that is a clique, and the pair of one that isn't
abbrev pub clique_by : Option (ℕ × ℕ) → List ℕ → Option (List ℕ)
clique_by None terms = Some terms
clique_by (Some p) terms = None

abbrev pub clique_in : Option Pick → Option (List ℕ)
clique_in None = None
clique_in (Some pick) = clique_by pick.pair pick.terms

abbrev pub pair_of : Option Pick → Option (ℕ × ℕ)
pair_of None = None
pair_of (Some pick) = pick.pair

-- whether the clause has the atom
abbrev pub has_atom : ℕ → Clause → Bool
has_atom a c = list_any (λ (l : Lit). l.atom.0 == a) c

-- marks by atom, once those of a clause are marked too, or where that isn't asked stay
abbrev pub AreMarkedWhere : Bool → Clause → List Bool → List Bool → Type 0
AreMarkedWhere asked c old new = (length new ≡ length old) × ((a : ℕ) (b : Bool) → slice_get old a ≡ Some b → slice_get new a ≡ Some (b || (asked && has_atom a c)))

abbrev pub AreMarked : Clause → List Bool → List Bool → Type 0
AreMarked c old new = AreMarkedWhere true c old new

-- the marks of the known atoms are those of atoms in a clause without a true literal
abbrev pub AreWanted : State → List Bool → Type 0
AreWanted s marks = (length marks ≡ length s.held.atoms) × ((a : ℕ) → a < length s.held.atoms → slice_get marks a ≡ Some (is_wanted s a))

-- the offer of one reader, and the order lemmas of one sort
abbrev pub take_by : State → Reader → List Offer
take_by s r = if nat_lt (head_of s.trail.heads r) (length s.trail.entries) then Offer.Take r ∷ [] else []

abbrev pub card_orders_of : State → ℕ → List Offer
card_orders_of s u = flat_map (card_order_at s u) (range_with_len 0 (length s.held.atoms))

-- an atom both ways, first negative
abbrev pub both_if : Bool → Atom → List Offer
both_if b a = if b then Offer.Decide (lit false a) ∷ (Offer.Decide (lit true a) ∷ []) else []

-- the decisions of sizes, before those of the atoms of clauses
abbrev pub first_decisions : State → List Offer
first_decisions s =
    if s.free then free_decisions s
    else (if is_unvalued s (Atom.Bound s.bound) then Offer.Decide (lit true (Atom.Bound s.bound)) ∷ [] else size_decisions s)

-- the pairs of all tests
abbrev pub split_all : State → List Offer
split_all s = flat_map (split_offers s) s.picks
