-- Size literals by the trail: the least true and the greatest false bound of a sort.
use Rattle.std.specs.Prelude.{ℕ, ◌+◌, ◌==◌, min, max, Bool, true, false, ◌&&◌, not, if◌then◌else◌, List, [], ◌∷◌, length, Option, Some, None}
use Rattle.std.specs.List.{flat_map, list_any, position_or_len, range_with_len}
use Rattle.fm_base.specs.declared.ids.SortId.{SortId}
use Rattle.fm_bank.specs.declared.atom.Atom.{Atom}
use Rattle.fm_bank.specs.declared.literal.Literal.{Literal}
use Rattle.fm_bank.specs.Interning.{find_atom}
use Rattle.fm_trail.specs.declared.entry.Entry.{Entry}
use Rattle.fm_trail.specs.Trail.{is_none, is_value}
use Rattle.fm_steps.specs.State.{State, atom_value}

abbrev pub sort : ℕ → SortId
sort s = record { 0 = s }

abbrev pub card : ℕ → ℕ → Atom
card s k = Atom.Card (sort s) k

abbrev pub lit : Bool → Atom → Literal
lit positive a = record { positive = positive; atom = a }

-- the atom has this value, or none
abbrev pub holds : State → Bool → Atom → Bool
holds s v a = is_value (atom_value s a) v

abbrev pub is_unvalued : State → Atom → Bool
is_unvalued s a = is_none (atom_value s a)

-- an entry of level 0 has the negative literal of the atom
abbrev pub is_refuting : ℕ → Entry → Bool
is_refuting n e = (e.lit.atom.0 == n && not e.lit.positive) && e.level == 0

abbrev pub is_refuted_by : List Entry → Option ℕ → Bool
is_refuted_by es None = false
is_refuted_by es (Some n) = list_any (is_refuting n) es

-- false at level 0
abbrev pub is_refuted : State → Atom → Bool
is_refuted s a = is_refuted_by s.trail.entries (find_atom s.held.atoms a)

abbrev pub number_in : ℕ → Atom → List ℕ
number_in s (Atom.Card u k) = if u.0 == s then k ∷ [] else []
number_in s (Atom.Equal a b) = []
number_in s (Atom.Pred t) = []
number_in s (Atom.Bound n) = []

-- the k of the atoms that bound the sort's size and have this value
abbrev pub numbers_with : State → Bool → ℕ → List ℕ
numbers_with s v u = flat_map (λ (a : Atom). if holds s v a then number_in u a else []) s.held.atoms

abbrev pub least_with : ℕ → Option ℕ → ℕ
least_with n None = n
least_with n (Some m) = min n m

abbrev pub greatest_with : ℕ → Option ℕ → ℕ
greatest_with n None = n
greatest_with n (Some m) = max n m

abbrev pub least : List ℕ → Option ℕ
least [] = None
least (n ∷ ns) = Some (least_with n (least ns))

abbrev pub greatest : List ℕ → Option ℕ
greatest [] = None
greatest (n ∷ ns) = Some (greatest_with n (greatest ns))

abbrev pub least_true : State → ℕ → Option ℕ
least_true s u = least (numbers_with s true u)

abbrev pub greatest_false : State → ℕ → Option ℕ
greatest_false s u = greatest (numbers_with s false u)

-- the least k from 1 on whose bound on the sort isn't false; it is at most one more than there are known atoms
abbrev pub least_open : State → ℕ → ℕ
least_open s u = position_or_len (λ i. not (holds s false (card u (i + 1)))) (range_with_len 0 (length s.held.atoms)) + 1
