-- Lemmas: which are due to a reader, and when one is false or unit.
use Rattle.std.specs.Prelude.{◌≡◌, ◌≢◌, ◌⊎◌, ℕ, zero, suc, ◌+◌, nat_lt, Bool, true, false, not, ◌&&◌, List, [], ◌∷◌, map, slice_get, Option, Some, None}
use Rattle.std.specs.List.{list_all}
use Rattle.fm_base.specs.Resolution.{Has, SameSet}
use Rattle.fm_base.specs.declared.ids.Reader.{Reader}
use Rattle.fm_bank.specs.declared.atom.Atom.{Atom}
use Rattle.fm_bank.specs.declared.literal.Literal.{Literal}
use Rattle.fm_bank.specs.Interning.{find_atom, lit_in}
use Rattle.fm_steps.specs.Content.{ShowsEquality, decides, has_clash, opposites}
use Rattle.fm_steps.specs.Picks.{Known, clique_lemma, read_literals}
use Rattle.fm_steps.specs.Sizes.{card, greatest_false, holds, is_unvalued, lit}
use Rattle.fm_steps.specs.State.{Clause, Pick, State}

-- a lemma that may be due: from a clash, by the value of an atom, of a sort's clique, of the sum, by order
pub data Due : Type 0 where
  Clash : Due
  Value : Atom → Bool → Due
  Clique : ℕ → Due
  SumBound : Due
  CardOrder : ℕ → ℕ → Due
  BoundOrder : ℕ → Due

-- a literal that is false by the trail, and a lemma that is
abbrev pub literal_fails : State → Literal → Bool
literal_fails s l = holds s (not l.positive) l.atom

abbrev pub is_false_lemma : State → List Literal → Bool
is_false_lemma s ls = list_all (literal_fails s) ls

abbrev pub is_some_number : Option ℕ → Bool
is_some_number None = false
is_some_number (Some n) = true

abbrev pub is_known : State → Atom → Bool
is_known s a = is_some_number (find_atom s.held.atoms a)

abbrev pub are_known : State → List Literal → Bool
are_known s ls = list_all (λ (l : Literal). is_known s l.atom) ls

-- all but this one are false, and it has no value
pub record IsUnitLemma (s : State) (ls : List Literal) (l : Literal) : Type 0 where
  pub has : Has ls l
  pub unset : is_unvalued s l.atom ≡ true
  pub others : (k : Literal) → Has ls k → k ≢ l → literal_fails s k ≡ true

-- a clause of the list is this set of literals
abbrev pub IsInClauses : State → List Literal → Type 0
IsInClauses s ls = (c : Clause) × Has s.clauses c × SameSet c (map (lit_in s.held.atoms) ls)

-- the greatest false bound of each sort, where each has one
abbrev pub with_bound : Option ℕ → Option (List ℕ) → Option (List ℕ)
with_bound None ks = None
with_bound (Some k) None = None
with_bound (Some k) (Some ks) = Some (k ∷ ks)

abbrev pub bounds_from : State → ℕ → ℕ → Option (List ℕ)
bounds_from s u zero = Some []
bounds_from s u (suc n) = with_bound (greatest_false s u) (bounds_from s (u + 1) n)

-- the sum lemma by them: some sort is within its bound, or the sum is above n
abbrev pub sum_literals : State → ℕ → List ℕ → List Literal
sum_literals s u [] = lit false (Atom.Bound s.bound) ∷ []
sum_literals s u (k ∷ ks) = lit true (card u k) ∷ sum_literals s (u + 1) ks

abbrev pub total_above : List ℕ → ℕ
total_above [] = 0
total_above (k ∷ ks) = k + 1 + total_above ks

abbrev pub is_sum_due : State → Option (List ℕ) → Bool
is_sum_due s None = false
is_sum_due s (Some ks) = nat_lt s.bound (total_above ks) && holds s true (Atom.Bound s.bound)

-- the order lemmas: what has at most k elements has at most k + 1
abbrev pub card_order : ℕ → ℕ → List Literal
card_order u k = lit false (card u k) ∷ (lit true (card u (k + 1)) ∷ [])

abbrev pub bound_order : ℕ → List Literal
bound_order n = lit false (Atom.Bound n) ∷ (lit true (Atom.Bound (n + 1)) ∷ [])

-- every literal, or every one but the decided one, is the opposite of a literal that was read
abbrev pub AllRead : List Literal → List Literal → Type 0
AllRead read ls = (k : Literal) → Has ls k → Has (opposites read) k

abbrev pub OthersRead : List Literal → List Literal → Literal → Type 0
OthersRead read ls l = (k : Literal) → Has ls k → (k ≡ l) ⊎ Has (opposites read) k

-- an equality lemma that shows a clash of what was read, and one that shows the value of a known atom without value
pub record IsClashLemma (s : State) (k : Known) (ls : List Literal) : Type 0 where
  pub clash : has_clash (read_literals Reader.Congruence s) k.congruence ≡ true
  pub read : AllRead (read_literals Reader.Congruence s) ls
  pub shows : ShowsEquality s.held ls

pub record IsValueLemma (s : State) (k : Known) (a : Atom) (v : Bool) (ls : List Literal) : Type 0 where
  pub known : is_known s a ≡ true
  pub unset : is_unvalued s a ≡ true
  pub decided : decides k.congruence a v ≡ true
  pub has : Has ls (lit v a)
  pub read : OthersRead (read_literals Reader.Congruence s) ls (lit v a)
  pub shows : ShowsEquality s.held ls

pub record IsCliqueLemma (s : State) (u : ℕ) (ls : List Literal) : Type 0 where
  pub pick : Pick
  pub there : slice_get s.picks u ≡ Some (Some pick)
  pub clique : pick.pair ≡ None
  pub is : ls ≡ clique_lemma u pick.terms

pub record IsSumLemma (s : State) (ls : List Literal) : Type 0 where
  pub ks : List ℕ
  pub bounds : bounds_from s 0 s.held.sig.sorts ≡ Some ks
  pub due : is_sum_due s (Some ks) ≡ true
  pub is : ls ≡ sum_literals s 0 ks

-- false, or all but one literal false
abbrev pub FalseOrUnit : State → List Literal → Type 0
FalseOrUnit s ls = (is_false_lemma s ls ≡ true) ⊎ ((l : Literal) × IsUnitLemma s ls l)

-- an order lemma is due where its two atoms are known and it is false or unit
pub record IsOrderLemma (s : State) (order ls : List Literal) : Type 0 where
  pub is : ls ≡ order
  pub known : are_known s ls ≡ true
  pub asks : FalseOrUnit s ls

-- the lemma is due to the reader; to the reader of instances none is
abbrev pub IsDue : State → Known → Reader → Due → List Literal → Type 0
IsDue s k Reader.Congruence Due.Clash ls = IsClashLemma s k ls
IsDue s k Reader.Congruence (Due.Value a v) ls = IsValueLemma s k a v ls
IsDue s k Reader.Regions (Due.Clique u) ls = IsCliqueLemma s u ls
IsDue s k Reader.Sum Due.SumBound ls = IsSumLemma s ls
IsDue s k Reader.Sum (Due.CardOrder u j) ls = IsOrderLemma s (card_order u j) ls
IsDue s k Reader.Sum (Due.BoundOrder n) ls = IsOrderLemma s (bound_order n) ls
IsDue s k r d ls = ⊥
