-- Why a search ends: what can still be done before a decision, an instance or an answer is a number that each other step makes
-- less, and those that decide or add an instance make less what is left of the budgets.
use Rattle.std.specs.Prelude.{◌≡◌, ◌<◌, ℕ, ◌≤◌, ◌+◌, ◌-◌, ◌*◌, ◌==◌, Bool, true, false, ◌&&◌, not, if◌then◌else◌, List, ◌++◌, length, map}
use Rattle.std.specs.List.{count_by, flat_map, list_all, list_any, range_with_len}
use Rattle.fm_base.specs.declared.ids.Lit.{Lit}
use Rattle.fm_base.specs.declared.ids.Reader.{Reader}
use Rattle.fm_bank.specs.Instances.{equality}
use Rattle.fm_bank.specs.Interning.{atom_number}
use Rattle.fm_bank.specs.declared.atom.Atom.{Atom}
use Rattle.fm_guide.specs.Events.{count_decisions, count_instances}
use Rattle.fm_guide.specs.declared.event.Event.{Event}
use Rattle.fm_trail.specs.Trail.{are_false, head_of, level_of}
use Rattle.fm_steps.specs.Lemmas.{is_known}
use Rattle.fm_steps.specs.Lines.{IsSorted}
use Rattle.fm_steps.specs.Runs.{IsReached, Run, Step}
use Rattle.fm_steps.specs.Sizes.{card, is_unvalued}
use Rattle.fm_steps.specs.State.{Budget, Clause, Problem, State}

-- the events that take of a budget, and the answer
abbrev pub is_stop : Event → Bool
is_stop (Event.Decide lit) = true
is_stop (Event.Instance clause terms) = true
is_stop (Event.Answer word) = true
is_stop e = false

abbrev pub has_atom : ℕ → Clause → Bool
has_atom n c = list_any (λ (l : Lit). l.atom.0 == n) c

-- the present bound has no value and stands in no clause, as behind Raise; in the bounded phase only its decision changes that
abbrev pub is_fresh : State → Bool
is_fresh s = is_unvalued s (Atom.Bound s.bound) && not (list_any (has_atom (atom_number s.held.atoms (Atom.Bound s.bound))) s.clauses)

-- how many of Turn and Raise can come before a decision: none where the bound is fresh, Raise in the free phase, else both
abbrev pub turns_left : State → ℕ
turns_left s = if s.free then 1 else (if is_fresh s then 0 else 2)

-- how often the trail can go back before a decision: Learn closes a level at least, and Turn and Raise are counted
abbrev pub returns_left : State → ℕ
returns_left s = turns_left s + level_of s.trail.entries

-- the equalities and the predicate atoms of terms with numbers below n
abbrev pub equalities : ℕ → List Atom
equalities n = flat_map (λ b. map (λ a. equality a b) (range_with_len 0 (b + 1))) (range_with_len 0 n)

abbrev pub predicates : ℕ → List Atom
predicates n = map (λ t. Atom.Pred (record { 0 = t })) (range_with_len 0 n)

-- the bounds up to k on the sizes of m sorts, and on their sum
abbrev pub size_atoms : ℕ → ℕ → List Atom
size_atoms m k = flat_map (λ u. map (card u) (range_with_len 0 (k + 1))) (range_with_len 0 m) ++ map Atom.Bound (range_with_len 0 (k + 1))

-- the atoms over the registered terms, with sizes up to k
abbrev pub atoms_up_to : State → ℕ → List Atom
atoms_up_to s k = equalities (length s.held.terms) ++ (predicates (length s.held.terms) ++ size_atoms s.held.sig.sorts k)

-- how many equalities of registered terms aren't known
abbrev pub unknown_equalities : State → ℕ
unknown_equalities s = count_by (λ a. not (is_known s a)) (equalities (length s.held.terms))

-- how many atoms have no value, of those with sizes up to the bound, known or not
abbrev pub open_atoms : State → ℕ
open_atoms s = count_by (is_unvalued s) (atoms_up_to s s.bound)

-- 1 where no clause is false
abbrev pub quiet : State → ℕ
quiet s = if list_any (are_false s.trail.entries) s.clauses then 0 else 1

-- how many entries the readers have still to read
abbrev pub unread_by : State → Reader → ℕ
unread_by s r = length s.trail.entries - head_of s.trail.heads r

abbrev pub unread : State → ℕ
unread s = unread_by s Reader.Congruence + unread_by s Reader.Regions + unread_by s Reader.Sum + unread_by s Reader.Instances

-- What can be done while the trail doesn't go back: Split makes an equality known, Unit and Imply give an open atom a value, which
-- four readers have to read, Lemma makes a clause false, and Take reads.
abbrev pub steps_left : State → ℕ
steps_left s = unknown_equalities s + 5 * open_atoms s + quiet s + unread s

-- More than going back can add to it: it may open all atoms and leave no clause false, and one entry is put on anew, which four
-- readers have to read.
abbrev pub return_weight : State → ℕ
return_weight s = 5 * length (atoms_up_to s (s.bound + 1)) + 1 + 4 + 1

-- what can be done before a decision, an instance or an answer
abbrev pub work_left : State → ℕ
work_left s = returns_left s * return_weight s + steps_left s

-- each other step of a run leaves less
abbrev pub StepsLeaveLess : Type 0
StepsLeaveLess =
    (p : Problem) (b : Budget) (events : List Event) (s : State) (e : Event) (t : State) → IsSorted p → IsReached p b events s → Step p b s e t
    → is_stop e ≡ false → work_left t < work_left s

-- so a stretch of a run with such steps alone is no longer than what can be done at its start, and has no more of Turn and
-- Raise than can come
abbrev pub are_no_stops : List Event → Bool
are_no_stops es = list_all (λ (e : Event). not (is_stop e)) es

abbrev pub StretchesEnd : Type 0
StretchesEnd =
    (p : Problem) (b : Budget) (events more : List Event) (s t : State) → IsSorted p → IsReached p b events s → Run p b s more t
    → are_no_stops more ≡ true → work_left t + length more ≤ work_left s

abbrev pub is_turn : Event → Bool
is_turn Event.Turn = true
is_turn Event.Raise = true
is_turn e = false

abbrev pub TurnsAreFew : Type 0
TurnsAreFew =
    (p : Problem) (b : Budget) (events more : List Event) (s t : State) → IsReached p b events s → Run p b s more t → are_no_stops more ≡ true
    → turns_left t + count_by is_turn more ≤ turns_left s

-- what is left of the two budgets: a decision and an instance take one, and nothing else does
abbrev pub budget_left : Budget → State → ℕ
budget_left b s = (b.instances - s.instances) + (b.decisions - s.decisions)

abbrev pub RunsSpend : Type 0
RunsSpend = (p : Problem) (b : Budget) (s : State) (es : List Event) (t : State) → Run p b s es t → budget_left b t + (count_instances es + count_decisions es) ≡ budget_left b s
