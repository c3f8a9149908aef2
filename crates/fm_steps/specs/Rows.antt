-- What each event asks for and changes: one record an event. An offer says more than its event: which lemma is meant, and
-- which atom, also where it isn't known yet.
use Rattle.std.specs.Prelude.{◌≡◌, ◌⊎◌, ℕ, ◌+◌, ◌<◌, Bool, true, false, List, [], ◌∷◌, ◌++◌, length, map, slice_get, Some, None}
use Rattle.std.specs.List.{list_all, list_any}
use Rattle.fm_base.specs.Models.{IsElements}
use Rattle.fm_base.specs.Resolution.{AreDistinct, Has}
use Rattle.fm_base.specs.declared.ids.Lit.{Lit}
use Rattle.fm_base.specs.declared.ids.Reader.{Reader}
use Rattle.fm_bank.specs.declared.atom.Atom.{Atom}
use Rattle.fm_bank.specs.declared.clause.Clause.{Clause as FirstOrderClause}
use Rattle.fm_bank.specs.declared.literal.Literal.{Literal}
use Rattle.fm_bank.specs.Closure.{object}
use Rattle.fm_bank.specs.Clauses.{Satisfies, lits_true}
use Rattle.fm_bank.specs.Instances.{equality}
use Rattle.fm_bank.specs.Interning.{Held, after_instance, find_atom, first_places, lit_in, literals_grown}
use Rattle.fm_guide.specs.declared.event.Word.{Word}
use Rattle.fm_rounds.specs.Failing.{named_of}
use Rattle.fm_rounds.specs.Rounds.{Content, candidate_reading, content_of, representatives}
use Rattle.fm_sat.specs.Learning.{IsAsserting, IsConflict, IsRefuted, LearntBy, Steps}
use Rattle.fm_sat.specs.Store.{HasNoFalse, IsUnit}
use Rattle.fm_trail.specs.declared.entry.Entry.{Entry}
use Rattle.fm_trail.specs.Trail.{head_of, is_true}
use Rattle.fm_steps.specs.Content.{classes_of, is_term_of_sort}
use Rattle.fm_steps.specs.Lemmas.{Due, IsDue, IsInClauses, IsUnitLemma, are_known, is_false_lemma}
use Rattle.fm_steps.specs.Picks.{Known}
use Rattle.fm_steps.specs.Sizes.{card, holds, is_refuted, is_unvalued, sort}
use Rattle.fm_steps.specs.State.{Budget, Clause, Problem, State, back_to, decided, know, put, put_decision, read_one, with_clause, with_literals}

pub data Offer : Type 0 where
  Learn : ℕ → Offer
  Unit' : ℕ → Offer
  Take : Reader → Offer
  Lemma : Reader → Due → Offer
  Imply : Reader → Due → Offer
  Turn : Offer
  Decide : Literal → Offer
  Split : ℕ → ℕ → Offer
  Instance : ℕ → List ℕ → Offer
  Raise : Offer
  Answer : Word → Offer

-- what is learnt is added, the trail goes back to the level, and the literal is put on with the new clause as its reason;
-- where nothing was resolved, the false clause itself is the reason and nothing is added
abbrev pub after_learning : ℕ → Steps → Clause → Lit → ℕ → State → State
after_learning n [] lits l level s = put l n (back_to level s)
after_learning n (step ∷ steps) lits l level s = put l (length s.clauses) (with_clause lits (back_to level s))

-- Learn: the clause is false, with a literal above level 0. While more than one literal of the clause so far has its highest
-- level, the one whose entry is the latest is resolved with its reason. Then one stands alone at the highest level, and
-- `level` is the highest of the others, or 0. The literals are free but for their set, and each stands once.
pub record LearnRow (s : State) (n : ℕ) (t : State) : Type 0 where
  pub conflict : IsConflict s.clauses s.trail.entries n
  pub steps : Steps
  pub lits : Clause
  pub learnt : LearntBy s.clauses s.trail.entries n steps lits
  pub distinct : AreDistinct lits
  pub lit : Lit
  pub level : ℕ
  pub asserting : IsAsserting s.trail.entries lits lit level
  pub after : t ≡ after_learning n steps lits lit level s

-- Unit: no clause is false, and this one is unit; its literal is put on
pub record UnitRow (s : State) (n : ℕ) (t : State) : Type 0 where
  pub quiet : HasNoFalse s.clauses s.trail.entries
  pub lit : Lit
  pub unit : IsUnit s.clauses s.trail.entries n lit
  pub after : t ≡ put lit n s

-- Take: no clause is false, and the head isn't at the end; it moves on by one
pub record TakeRow (s : State) (r : Reader) (t : State) : Type 0 where
  pub quiet : HasNoFalse s.clauses s.trail.entries
  pub left : head_of s.trail.heads r < length s.trail.entries
  pub after : t ≡ read_one r s

-- Lemma: a lemma that isn't in the list is due and false, each of its literals once; it is added
pub record LemmaRow (s : State) (k : Known) (r : Reader) (d : Due) (t : State) : Type 0 where
  pub lits : List Literal
  pub due : IsDue s k r d lits
  pub distinct : AreDistinct lits
  pub known : are_known s lits ≡ true
  pub new : IsInClauses s lits → ⊥
  pub false_here : is_false_lemma s lits ≡ true
  pub after : t ≡ with_literals lits s

-- Imply: a lemma that isn't in the list is due and unit, each of its literals once; it is added and its literal is put on
pub record ImplyRow (s : State) (k : Known) (r : Reader) (d : Due) (t : State) : Type 0 where
  pub lits : List Literal
  pub due : IsDue s k r d lits
  pub distinct : AreDistinct lits
  pub known : are_known s lits ≡ true
  pub new : IsInClauses s lits → ⊥
  pub lit : Literal
  pub unit : IsUnitLemma s lits lit
  pub after : t ≡ put (lit_in s.held.atoms lit) (length s.clauses) (with_literals lits s)

-- Turn: bounded, and the bound is false at level 0; the phase is free, and the trail goes back to level 0
pub record TurnRow (s t : State) : Type 0 where
  pub bounded : s.free ≡ false
  pub refuted : is_refuted s (Atom.Bound s.bound) ≡ true
  pub after : t ≡ record (back_to 0 s) { free = true }

-- Decide: the atom has no value, and decisions are below the budget. What else is asked the menu says.
pub record DecideRow (b : Budget) (s : State) (l : Literal) (t : State) : Type 0 where
  pub room : s.decisions < b.decisions
  pub unset : is_unvalued s l.atom ≡ true
  pub after : t ≡ decided (put_decision (lit_in (know l.atom s).held.atoms l) (know l.atom s))

-- Split: bounded; some bound on the sort is true, by what Regions knows the sort has more classes, and two terms of it are in
-- different classes and not apart; their equality isn't known, and is known then
pub record SplitRow (s : State) (k : Known) (a b : ℕ) (t : State) : Type 0 where
  pub bounded : s.free ≡ false
  pub sort_of : ℕ
  pub bound : ℕ
  pub holds_here : holds s true (card sort_of bound) ≡ true
  pub more : bound < length (classes_of s.held k.regions (sort sort_of))
  pub first : is_term_of_sort s.held sort_of a ≡ true
  pub second : is_term_of_sort s.held sort_of b ≡ true
  pub different : k.regions.same (object a) (object b) ≡ false
  pub open_ : k.regions.apart a b ≡ false
  pub unknown : find_atom s.held.atoms (equality a b) ≡ None
  pub after : t ≡ know (equality a b) s

-- what the candidate is made of: by what Congruence knows, of the added instances
abbrev pub content_at : Problem → State → Known → Content
content_at p s k = content_of p s.held.terms k.congruence.same s.added

-- the literals of an instance, each once
abbrev pub instance_literals : Held → FirstOrderClause → List ℕ → List Literal
instance_literals held c subst = first_places [] (literals_grown c.lits subst held.terms).1

abbrev pub with_instance : ℕ → FirstOrderClause → List ℕ → State → State
with_instance i c subst s = record s {
  held = after_instance s.held c.lits subst;
  clauses = s.clauses ++ map (lit_in (after_instance s.held c.lits subst).atoms) (instance_literals s.held c subst) ∷ [];
  added = s.added ++ (i, subst) ∷ [];
  instances = s.instances + 1;
}

-- Instance: bounded; the instance is false in the candidate, its terms are representatives, and it isn't added yet;
-- instances are below the budget. It is added to the list and to the instances.
pub record InstanceRow (p : Problem) (b : Budget) (s : State) (k : Known) (i : ℕ) (subst : List ℕ) (t : State) : Type 0 where
  pub bounded : s.free ≡ false
  pub room : s.instances < b.instances
  pub clause : FirstOrderClause
  pub there : slice_get p.clauses i ≡ Some clause
  pub elements : List ℕ
  pub within : IsElements (candidate_reading (content_at p s k)) clause.vars elements
  pub named : named_of (representatives (content_at p s k)) clause.vars elements ≡ subst
  pub false_there : lits_true (candidate_reading (content_at p s k)) elements clause.lits ≡ false
  pub new : Has s.added (i, subst) → ⊥
  pub after : t ≡ with_instance i clause subst s

-- no lemma is due to any reader
abbrev pub NothingDue : State → Known → Type 0
NothingDue s k = (r : Reader) (d : Due) (ls : List Literal) → IsDue s k r d ls → ⊥

-- some literal is true
abbrev pub is_satisfied : List Entry → Clause → Bool
is_satisfied es c = list_any (is_true es) c

-- Raise: free; every clause has a true literal, and nothing is due. The bound is one more and known, the phase is bounded,
-- and the trail goes back to level 0.
pub record RaiseRow (s : State) (k : Known) (t : State) : Type 0 where
  pub free : s.free ≡ true
  pub satisfied : list_all (is_satisfied s.trail.entries) s.clauses ≡ true
  pub nothing : NothingDue s k
  pub after : t ≡ know (Atom.Bound (s.bound + 1)) (record (back_to 0 s) { bound = s.bound + 1; free = false })

-- Answer: sat, where bounded and the candidate satisfies all clauses; unsat, where a clause is false at level 0; unknown,
-- where a budget is spent. The run ends.
abbrev pub AnswerRow : Problem → Budget → State → Known → Word → Type 0
AnswerRow p b s k Word.Sat = (s.free ≡ false) × Satisfies (candidate_reading (content_at p s k)) p.clauses
AnswerRow p b s k Word.Unsat = (n : ℕ) × IsRefuted s.clauses s.trail.entries n
AnswerRow p b s k Word.Unknown = (s.decisions ≡ b.decisions) ⊎ (s.instances ≡ b.instances)

-- the row of the offer is met in s, and leads to t, before the picks are chosen anew
abbrev pub Row : Problem → Budget → State → Known → Offer → State → Type 0
Row p b s k (Offer.Learn n) t = LearnRow s n t
Row p b s k (Offer.Unit' n) t = UnitRow s n t
Row p b s k (Offer.Take r) t = TakeRow s r t
Row p b s k (Offer.Lemma r d) t = LemmaRow s k r d t
Row p b s k (Offer.Imply r d) t = ImplyRow s k r d t
Row p b s k Offer.Turn t = TurnRow s t
Row p b s k (Offer.Decide l) t = DecideRow b s l t
Row p b s k (Offer.Split a c) t = SplitRow s k a c t
Row p b s k (Offer.Instance i subst) t = InstanceRow p b s k i subst t
Row p b s k Offer.Raise t = RaiseRow s k t
Row p b s k (Offer.Answer w) t = AnswerRow p b s k w × (t ≡ s)
