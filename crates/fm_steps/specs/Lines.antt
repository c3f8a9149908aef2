-- The terms and the clause list of a state as what good lines of a certificate make, and the lines of each event.
use Rattle.std.specs.Prelude.{◌≡◌, ℕ, zero, suc, ◌+◌, ◌-◌, ◌<◌, ◌^◌, ◌==◌, nat_lt, Bool, true, if◌then◌else◌, List, [], ◌∷◌, ◌++◌, drop, get_or, length, map, slice_get, Some}
use Rattle.std.specs.List.{list_all, range_with_len}
use Rattle.fm_base.specs.Interpretations.{IsInterpretation, Reading}
use Rattle.fm_base.specs.declared.ids.Lit.{Lit}
use Rattle.fm_base.specs.declared.ids.Reader.{Reader}
use Rattle.fm_base.specs.declared.ids.TermId.{TermId}
use Rattle.fm_bank.specs.Interning.{Held, IsHeld, is_atom}
use Rattle.fm_bank.specs.Sorted.{is_sorted_clause}
use Rattle.fm_bank.specs.Terms.{Term, is_term}
use Rattle.fm_bank.specs.Clauses.{Satisfies}
use Rattle.fm_bank.specs.Meaning.{literals_true}
use Rattle.fm_bank.specs.declared.atom.Atom.{Atom}
use Rattle.fm_bank.specs.declared.clause.Clause.{Clause as FirstOrderClause}
use Rattle.fm_bank.specs.declared.literal.Literal.{Literal}
use Rattle.fm_cert.specs.Lines.{AreGoodLines, Made, MakesClause, nothing}
pub use Rattle.fm_cert.specs.Lines.{Problem as Certified}
use Rattle.fm_cert.specs.declared.block.Line.{Line}
use Rattle.fm_guide.specs.declared.event.Event.{Event}
use Rattle.fm_rounds.specs.InstanceTerms.{fresh_symbols}
use Rattle.fm_sat.specs.Learning.{Steps}
use Rattle.fm_steps.specs.Content.{is_term_of_sort}
use Rattle.fm_steps.specs.Facts.{AtomsAreKnown, IsLawful}
use Rattle.fm_steps.specs.Lemmas.{Due, IsDue, are_known}
use Rattle.fm_steps.specs.Picks.{Known, Settles}
use Rattle.fm_steps.specs.Rows.{Offer, Row}
use Rattle.fm_steps.specs.Runs.{IsReached, IsStart, Step, term_id}
use Rattle.fm_steps.specs.Sizes.{sort}
use Rattle.fm_steps.specs.Start.{first_terms}
use Rattle.fm_steps.specs.State.{Budget, Clause, Pick, Problem, State}

-- what a certificate is of, as clauses for which a model is searched; the number of declared functions is of no use to either
abbrev pub searched : Certified → ℕ → Problem
searched c user = record { sig = c.symbols; user = user; clauses = c.clauses }

-- a literal and a clause by their atoms
abbrev pub literal_in : List Atom → Lit → Literal
literal_in atoms l = record { positive = l.positive; atom = get_or atoms l.atom.0 (Atom.Bound 0) }

abbrev pub clause_in : List Atom → Clause → List Literal
clause_in atoms c = map (literal_in atoms) c

-- the registered terms and the clause list, as what lines have made
abbrev pub made_of : State → Made
made_of s = record { terms = s.held.terms; clauses = map (clause_in s.held.atoms) s.clauses }

-- lines that make them
abbrev pub AreLinesOf : Certified → State → List Line → Type 0
AreLinesOf c s lines = AreGoodLines c nothing lines (made_of s)

abbrev pub HasLines : Certified → State → Type 0
HasLines c s = (lines : List Line) × AreLinesOf c s lines

-- the clauses are well sorted, and the fresh symbols are constants
abbrev pub is_constant : Problem → ℕ → Bool
is_constant p f = is_term p.sig [] (record { symbol = f; args = [] })

pub record IsSorted (p : Problem) : Type 0 where
  pub clauses : list_all (is_sorted_clause p.sig) p.clauses ≡ true
  pub constants : list_all (is_constant p) (fresh_symbols p) ≡ true

-- at least one term, and all of the sort
pub record IsPickOfSort (held : Held) (u : ℕ) (pick : Pick) : Type 0 where
  pub some : 0 < length pick.terms
  pub sorts : list_all (is_term_of_sort held u) pick.terms ≡ true

abbrev pub ArePicksOfSorts : State → Type 0
ArePicksOfSorts s = (u : ℕ) (pick : Pick) → slice_get s.picks u ≡ Some (Some pick) → IsPickOfSort s.held u pick

-- each term is an application of a symbol to earlier terms, each atom is one over the terms, and each stands once; the tests
-- have terms of their sorts
pub record IsWellHeld (p : Problem) (s : State) : Type 0 where
  pub sig : s.held.sig ≡ p.sig
  pub held : IsHeld s.held.sig s.held.terms s.held.atoms
  pub picks : ArePicksOfSorts s

-- an offer to decide is of an atom over the terms, as the menu's are
abbrev pub DecidesAnAtom : State → Offer → Type 0
DecidesAnAtom s (Offer.Decide l) = is_atom s.held.sig s.held.terms l.atom ≡ true
DecidesAnAtom s o = Unit {0}

-- the numbers in size atoms can be written
abbrev pub is_written : Atom → Bool
is_written (Atom.Card s k) = nat_lt k (2 ^ 64)
is_written (Atom.Bound n) = nat_lt n (2 ^ 64)
is_written (Atom.Equal a b) = true
is_written (Atom.Pred t) = true

abbrev pub are_written : State → Bool
are_written s = list_all is_written s.held.atoms

-- a line for each term from the place n on
abbrev pub term_line : Term → Line
term_line t = Line.Term (record { 0 = t.symbol }) (map term_id t.args)

abbrev pub lines_from : ℕ → List Term → List Line
lines_from n terms = map term_line (drop n terms)

-- the line of a lemma that is due; an equality lemma is supported by all terms
abbrev pub all_terms : State → List TermId
all_terms s = map term_id (range_with_len 0 (length s.held.terms))

abbrev pub due_line : (s : State) (k : Known) (r : Reader) (d : Due) (ls : List Literal) → IsDue s k r d ls → Line
due_line s k Reader.Congruence Due.Clash ls h = Line.Equality ls (all_terms s)
due_line s k Reader.Congruence (Due.Value a v) ls h = Line.Equality ls (all_terms s)
due_line s k Reader.Regions (Due.Clique u) ls h = Line.Cardinality (sort u) (length h.pick.terms - 1) (map term_id h.pick.terms)
due_line s k Reader.Sum Due.SumBound ls h = Line.Sum s.bound h.ks
due_line s k Reader.Sum (Due.CardOrder u j) ls h = Line.OrderCard (sort u) j
due_line s k Reader.Sum (Due.BoundOrder n) ls h = Line.OrderBound n
due_line s k r d ls h = absurd h

-- the line of what is learnt; where nothing was resolved there is none
abbrev pub named_step : List Atom → Lit × ℕ → Literal × ℕ
named_step atoms st = (literal_in atoms st.0, st.1)

abbrev pub learnt_lines : List Atom → ℕ → Steps → List Line
learnt_lines atoms n [] = []
learnt_lines atoms n (st ∷ sts) = Line.Resolution n (map (named_step atoms) (st ∷ sts)) ∷ []

-- the lines of an event whose row is met
abbrev pub row_lines : (p : Problem) (b : Budget) (s : State) (k : Known) (o : Offer) (t : State) → Row p b s k o t → List Line
row_lines p b s k (Offer.Learn n) t r = learnt_lines s.held.atoms n r.steps
row_lines p b s k (Offer.Lemma e d) t r = due_line s k e d r.lits r.due ∷ []
row_lines p b s k (Offer.Imply e d) t r = due_line s k e d r.lits r.due ∷ []
row_lines p b s k (Offer.Instance i subst) t r = lines_from (length s.held.terms) t.held.terms ++ Line.Instance i (map term_id subst) ∷ []
row_lines p b s k o t r = []

-- a lemma that is due is the clause of its line
abbrev pub LemmasAreLines : Type 0
LemmasAreLines =
    (c : Certified) (user : ℕ) (s : State) (k : Known) (r : Reader) (d : Due) (ls : List Literal) → IsWellHeld (searched c user) s → are_written s ≡ true
    → are_known s ls ≡ true → (h : IsDue s k r d ls) → MakesClause c (made_of s) (due_line s k r d ls h) ls

-- the lines of an event make of what the state has what the state behind it has
abbrev pub RowsAreWritten : Type 0
RowsAreWritten =
    (c : Certified) (user : ℕ) (b : Budget) (s : State) (k : Known) (o : Offer) (t : State) → IsSorted (searched c user) → IsLawful (searched c user) s
    → IsWellHeld (searched c user) s → are_written s ≡ true → (r : Row (searched c user) b s k o t) → AreGoodLines c (made_of s) (row_lines (searched c user) b s k o t r) (made_of t)

-- the lines of the start: its terms, the clauses without variables, and that no sort is empty
abbrev pub ground_lines : ℕ → List FirstOrderClause → List Line
ground_lines n [] = []
ground_lines n (k ∷ ks) = (if length k.vars == 0 then Line.Instance n [] ∷ [] else []) ++ ground_lines (n + 1) ks

abbrev pub element_lines : List ℕ → List Line
element_lines us = map (λ u. Line.OrderZero (sort u)) us

abbrev pub sum_lines : ℕ → List Line
sum_lines zero = []
sum_lines (suc m) = Line.Sum m (map (λ u. 0) (range_with_len 0 (suc m))) ∷ []

abbrev pub start_lines : Problem → List Line
start_lines p = ((lines_from 0 (first_terms p) ++ ground_lines 0 p.clauses) ++ element_lines (range_with_len 0 p.sig.sorts)) ++ sum_lines p.sig.sorts

-- they make what the start has; what is known besides changes nothing
abbrev pub StartIsWritten : Type 0
StartIsWritten = (c : Certified) (user : ℕ) (s : State) → IsSorted (searched c user) → IsStart (searched c user) s → AreLinesOf c s (start_lines (searched c user))

abbrev pub SettlingWritesNothing : Type 0
SettlingWritesNothing = (mid t : State) → AtomsAreKnown mid → Settles mid t → made_of t ≡ made_of mid

-- every state of a run whose numbers can be written has lines
abbrev pub RunsHaveLines : Type 0
RunsHaveLines =
    (c : Certified) (user : ℕ) (b : Budget) (events : List Event) (s : State) → IsSorted (searched c user) → IsReached (searched c user) b events s
    → are_written s ≡ true → HasLines c s

-- and each clause of its list holds in every interpretation that satisfies the problem's clauses, each term having its value
-- there
abbrev pub RunsFollow : Type 0
RunsFollow =
    (c : Certified) (user : ℕ) (b : Budget) (events : List Event) (s : State) → IsSorted (searched c user) → IsReached (searched c user) b events s
    → are_written s ≡ true → (m : Reading) → IsInterpretation c.symbols m → Satisfies m c.clauses
    → (i : ℕ) (k : Clause) → slice_get s.clauses i ≡ Some k → literals_true c.symbols m s.held.terms (clause_in s.held.atoms k) ≡ true

-- terms, atoms and tests are well held at the start, after each step, and so in every state of a run
abbrev pub StartsHeld : Type 0
StartsHeld = (p : Problem) (s : State) → IsSorted p → IsStart p s → IsWellHeld p s

abbrev pub StepsStayHeld : Type 0
StepsStayHeld = (p : Problem) (b : Budget) (s : State) (e : Event) (t : State) → IsSorted p → IsWellHeld p s → Step p b s e t → IsWellHeld p t

abbrev pub RunsStayHeld : Type 0
RunsStayHeld = (p : Problem) (b : Budget) (events : List Event) (s : State) → IsSorted p → IsReached p b events s → IsWellHeld p s

-- where the bound can be written, so can all numbers in size atoms
abbrev pub BoundsAreWritten : Type 0
BoundsAreWritten =
    (p : Problem) (b : Budget) (events : List Event) (s : State) → IsSorted p → IsReached p b events s → s.bound < 2 ^ 64 → are_written s ≡ true
