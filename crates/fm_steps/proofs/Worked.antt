-- The machine at worked problems: the clauses with which it starts, its first menus, and a first step.
use Rattle.std.proofs.Common.{◌≡◌, ◌≢◌, ℕ, zero, suc, ◌-◌, ◌==◌, not, Bool, true, false, cond, List, [], ◌∷◌, ◌++◌, length, Some, None, inl, inr, refl, sym, subst, ap, ◌∙◌, arith}
use Rattle.std.specs.Prelude.{Option, drop}
use Rattle.std.specs.List.{All, list_any, range_with_len}
use Rattle.std.proofs.lemmas.Bool.{and_parts, eq-eqb, eqb-true, false≢true}
use Rattle.fm_base.specs.Resolution.{Has}
use Rattle.fm_base.specs.declared.formula.Patom.{Patom}
use Rattle.fm_base.specs.declared.formula.Pterm
use Rattle.fm_base.specs.declared.formula.Pterm.{Pterm}
use Rattle.fm_base.specs.declared.ids.Lit.{Lit}
use Rattle.fm_base.specs.declared.ids.Reader.{Reader}
use Rattle.fm_base.specs.declared.signature.Rank.{Rank}
use Rattle.fm_base.specs.declared.signature.Sig.{Sig}
use Rattle.fm_base.specs.declared.signature.Ty.{Ty}
use Rattle.fm_bank.specs.Closure.{Follows, IsClosed, Shape, are_congruent, object}
use Rattle.fm_bank.specs.GroundTerms.{ground_atom_grown, ground_grown}
use Rattle.fm_bank.specs.Instances.{equality}
use Rattle.fm_bank.specs.Interning.{Held, grown, term_number, with_term}
use Rattle.fm_bank.specs.Terms.{Term}
use Rattle.fm_bank.specs.Tests.{AreTests, Tests}
use Rattle.fm_bank.specs.declared.atom.Atom.{Atom}
use Rattle.fm_bank.specs.declared.clause.Clause.{Clause as FirstOrderClause}
use Rattle.fm_bank.specs.declared.literal.Literal.{Literal}
use Rattle.fm_bank.proofs.GroundGrowing.{ground_of_app}
use Rattle.fm_bank.proofs.Steps.{grown_app}
use Rattle.fm_guide.specs.declared.event.Event.{Event}
use Rattle.fm_guide.specs.declared.event.Word.{Word}
use Rattle.fm_rounds.specs.InstanceTerms.{clauses_ground_grown, fresh_symbols, is_bare, is_term_of}
use Rattle.fm_sat.specs.Store.{HasNoFalse}
use Rattle.fm_trail.specs.Trail.{are_false, heads_at}
use Rattle.fm_steps.specs.Lemmas.{Due, sum_literals}
use Rattle.fm_cert.specs.declared.block.Line.{Line}
use Rattle.fm_steps.specs.Lines.{due_line, element_lines, ground_lines, lines_from, made_of, start_lines, sum_lines}
use Rattle.fm_steps.specs.Menu.{menu_of}
use Rattle.fm_steps.specs.Picks.{Known, Settles, clique_lemma}
use Rattle.fm_steps.specs.Rows.{Offer, instance_literals}
use Rattle.fm_steps.specs.Runs.{IsStart, Run, Step, carried, event_of, term_id}
use Rattle.fm_steps.specs.Sizes.{card, lit, sort}
use Rattle.fm_steps.specs.Start.{constants_grown, empty_state, first_state, first_terms, with_elements, with_first_sum, with_ground_clauses}
use Rattle.fm_steps.specs.State.{Budget, Problem, State, back_to, know, put, put_decision, with_literals}
use Rattle.fm_steps.proofs.Running.{offered_only}

abbrev pub plus : ℕ → Lit
plus n = record { atom = record { 0 = n }; positive = true }

abbrev pub minus : ℕ → Lit
minus n = record { atom = record { 0 = n }; positive = false }

-- One sort and three constants of it, each two of which are different.
abbrev pub constant : ℕ → Pterm
constant f = Pterm.App (record { 0 = f }) []

abbrev pub differ : ℕ → ℕ → FirstOrderClause
differ a b = record { vars = []; lits = record { positive = false; atom = Patom.Equal (constant a) (constant b) } ∷ [] }

abbrev pub rank : Rank
rank = record { args = []; result = Ty.Of (record { 0 = 0 }) }

abbrev pub three_sig : Sig
three_sig = record { sorts = 1; ranks = rank ∷ (rank ∷ (rank ∷ [])) }

abbrev pub three : Problem
three = record { sig = three_sig; user = 3; clauses = differ 0 1 ∷ (differ 0 2 ∷ (differ 1 2 ∷ [])) }

abbrev term : ℕ → Term
term f = record { symbol = f; args = [] }

abbrev three_terms : List Term
three_terms = term 0 ∷ (term 1 ∷ (term 2 ∷ []))

-- a constant brings itself
constant_ground : (f : ℕ) (terms : List Term) → ground_grown (constant f) terms ≡ (with_term terms (term f), Some (term_number terms (term f)))
constant_ground f terms = ground_of_app (record { 0 = f }) [] terms

differ_ground : (a b : ℕ) (terms : List Term) → ground_atom_grown (Patom.Equal (constant a) (constant b)) terms ≡ with_term (with_term terms (term a)) (term b)
differ_ground a b terms =
    ap (λ (x : List Term × Option ℕ). (ground_grown (constant b) x.0).0) (constant_ground a terms)
    ∙ ap (λ (x : List Term × Option ℕ). x.0) (constant_ground b (with_term terms (term a)))

clauses_terms : clauses_ground_grown three.clauses [] ≡ three_terms
clauses_terms =
    ap (λ (ts : List Term). clauses_ground_grown (differ 0 2 ∷ (differ 1 2 ∷ [])) ts) (differ_ground 0 1 [])
    ∙ (ap (λ (ts : List Term). clauses_ground_grown (differ 1 2 ∷ []) ts) (differ_ground 0 2 (term 0 ∷ (term 1 ∷ [])))
    ∙ differ_ground 1 2 three_terms)

-- so no constant is fresh
pub not_bare : is_bare three 0 ≡ false
not_bare = ap (λ (ts : List Term). not (list_any (is_term_of three_sig 0) ts)) clauses_terms

no_fresh : fresh_symbols three ≡ []
no_fresh =
    let bare_ones : Bool → List ℕ = λ b. cond b (0 ∷ []) [] in
    ap (λ (b : Bool). drop (3 - length (bare_ones b)) (range_with_len 0 3)) not_bare

pub start_terms : first_terms three ≡ three_terms
start_terms = (λ i. constants_grown (no_fresh i) (clauses_terms i))

-- the one literal of a clause
constant_grown : (f : ℕ) (terms : List Term) → grown (constant f) [] terms ≡ (with_term terms (term f), term_number terms (term f))
constant_grown f terms = grown_app (record { 0 = f }) [] [] terms

abbrev differ_literal : ℕ → ℕ → List Term → Literal
differ_literal a b terms = lit false (equality (term_number terms (term a)) (term_number (with_term terms (term a)) (term b)))

differ_literals : (h : Held) (a b : ℕ) → instance_literals h (differ a b) [] ≡ differ_literal a b h.terms ∷ []
differ_literals h a b =
    ap (λ (x : List Term × ℕ). lit false (equality x.1 (grown (constant b) [] x.0).1) ∷ []) (constant_grown a h.terms)
    ∙ ap (λ (x : List Term × ℕ). lit false (equality (term_number h.terms (term a)) x.1) ∷ []) (constant_grown b (with_term h.terms (term a)))

clause_step : (s : State) (a b : ℕ) (cs : List FirstOrderClause) → with_ground_clauses (differ a b ∷ cs) s ≡ with_ground_clauses cs (with_literals (differ_literal a b s.held.terms ∷ []) s)
clause_step s a b cs = ap (λ (ls : List Literal). with_ground_clauses cs (with_literals ls s)) (differ_literals s.held a b)

-- the start, by its terms
abbrev bare : State
bare = record (empty_state three) { held = record { sig = three_sig; terms = three_terms; atoms = [] } }

bare_is : empty_state three ≡ bare
bare_is = ap (λ (ts : List Term). record (empty_state three) { held = record { sig = three_sig; terms = ts; atoms = [] } }) start_terms

abbrev one_clause : State
one_clause = with_literals (lit false (equality 0 1) ∷ []) bare

abbrev two_clauses : State
two_clauses = with_literals (lit false (equality 0 2) ∷ []) one_clause

abbrev three_clauses : State
three_clauses = with_literals (lit false (equality 1 2) ∷ []) two_clauses

abbrev pub start : State
start = know (Atom.Bound 1) (with_first_sum 1 (with_elements (0 ∷ []) three_clauses))

pub start_is : first_state three ≡ start
start_is =
    ap (λ (s : State). know (Atom.Bound 1) (with_first_sum 1 (with_elements (0 ∷ []) (with_ground_clauses three.clauses s)))) bare_is
    ∙ ap (λ (s : State). know (Atom.Bound 1) (with_first_sum 1 (with_elements (0 ∷ []) s)))
    (clause_step bare 0 1 (differ 0 2 ∷ (differ 1 2 ∷ []))
    ∙ (clause_step one_clause 0 2 (differ 1 2 ∷ [])
    ∙ clause_step two_clauses 1 2 []))

start_clauses : start.clauses ≡ (minus 0 ∷ []) ∷ ((minus 1 ∷ []) ∷ ((minus 2 ∷ []) ∷ ((minus 3 ∷ []) ∷ ((plus 3 ∷ (minus 4 ∷ [])) ∷ []))))
start_clauses = refl

start_atoms : start.held.atoms ≡ equality 0 1 ∷ (equality 0 2 ∷ (equality 1 2 ∷ (card 0 0 ∷ (Atom.Bound 0 ∷ (Atom.Bound 1 ∷ [])))))
start_atoms = refl

abbrev units : List Offer
units = Offer.Unit' 0 ∷ (Offer.Unit' 1 ∷ (Offer.Unit' 2 ∷ (Offer.Unit' 3 ∷ [])))

start_menu : (k : Known) → menu_of three start k ≡ units
start_menu k = refl

-- The tests at the start, where nothing is read: equal numbers, and nothing apart.
abbrev equal_numbers : Tests
equal_numbers = record { same = λ x y. x == y; apart = λ a b. false }

abbrev shape : ℕ → Shape
shape n = record { number = n; symbol = n; args = [] }

abbrev shapes : List Shape
shapes = shape 0 ∷ (shape 1 ∷ (shape 2 ∷ []))

same_shape : (a b : ℕ) → are_congruent (λ x y. x == y) (shape a) (shape b) ≡ true → (object a == object b) ≡ true
same_shape a b h = let e = eqb-true a b (and_parts (a == b) true h).0 in eq-eqb (object a) (object b) (omega (arith, e))

congruent_from : (a : ℕ) → All (λ (b : Shape). are_congruent (λ x y. x == y) (shape a) b ≡ true → (object a == object b.number) ≡ true) shapes
congruent_from a zero d lt = same_shape a 0
congruent_from a (suc zero) d lt = same_shape a 1
congruent_from a (suc (suc zero)) d lt = same_shape a 2
congruent_from a (suc (suc (suc k))) d lt = absurd (omega arith)

congruent_all : All (λ (a : Shape). All (λ (b : Shape). are_congruent (λ x y. x == y) a b ≡ true → (object a.number == object b.number) ≡ true) shapes) shapes
congruent_all zero d lt = congruent_from 0
congruent_all (suc zero) d lt = congruent_from 1
congruent_all (suc (suc zero)) d lt = congruent_from 2
congruent_all (suc (suc (suc k))) d lt = absurd (omega arith)

no_facts : All (λ (p : ℕ × ℕ). (p.0 == p.1) ≡ true) []
no_facts k d lt = absurd (omega arith)

numbers_closed : IsClosed shapes [] (λ x y. x == y)
numbers_closed = record {
  reflexive = λ x. eq-eqb x x refl;
  symmetric = λ x y h. eq-eqb y x (sym (eqb-true x y h));
  transitive = λ x y z h k. eq-eqb x z (eqb-true x y h ∙ eqb-true y z k);
  facts_hold = no_facts;
  congruent = congruent_all;
}

equal_follows : (x y : ℕ) → (x == y) ≡ true → Follows shapes [] x y
equal_follows x y h R closed = subst (λ z. R x z ≡ true) (eqb-true x y h) (closed.reflexive x)

nothing_read : AreTests shapes [] [] equal_numbers
nothing_read = record {
  same_is = λ x y. (equal_follows x y, λ h. h (λ u v. u == v) numbers_closed);
  apart_is = λ u v. (λ h. absurd (false≢true h), λ h. absurd h);
}

abbrev unread : Known
unread = record { congruence = equal_numbers; regions = equal_numbers }

-- the start with its picks, and what the first Unit leaves
abbrev pub first : State
first = record start { picks = None ∷ [] }

settled : Settles start first
settled = record { known = unread; is_known = record { congruence = nothing_read; regions = nothing_read }; picks = None ∷ []; are_picks = (refl, refl); after = refl }

pub starts : IsStart three first
starts = subst (λ (s : State). Settles s first) (sym start_is) settled

abbrev pub next : State
next = put (minus 0) 0 first

clause_is_open : (l : Lit) (ls c : List Lit) → Some (l ∷ ls) ≡ Some c → are_false [] c ≡ false
clause_is_open l ls c e = let same : l ∷ ls ≡ c = cc e in subst (λ (x : List Lit). are_false [] x ≡ false) same refl

nothing_false : HasNoFalse first.clauses []
nothing_false zero c at = clause_is_open (minus 0) [] c at
nothing_false (suc zero) c at = clause_is_open (minus 1) [] c at
nothing_false (suc (suc zero)) c at = clause_is_open (minus 2) [] c at
nothing_false (suc (suc (suc zero))) c at = clause_is_open (minus 3) [] c at
nothing_false (suc (suc (suc (suc zero)))) c at = clause_is_open (plus 3) (minus 4 ∷ []) c at
nothing_false (suc (suc (suc (suc (suc i))))) c at = absurd (cc at)

pub first_step : (b : Budget) → Step three b first (Event.Unit 0) next
first_step b = record {
  known = unread;
  is_known = record { congruence = nothing_read; regions = nothing_read };
  place = 0;
  offer = Offer.Unit' 0;
  there = refl;
  move = record {
    mid = next;
    row = record { quiet = nothing_false; lit = minus 0; unit = record { clause = minus 0 ∷ []; stored = refl; unit = refl }; after = refl };
    settles = record { known = unread; is_known = record { congruence = nothing_read; regions = nothing_read }; picks = None ∷ []; are_picks = (refl, refl); after = refl };
  };
  event = refl;
}

-- no run from the start begins with another event, such as an answer
offered_first : (b : Budget) (o : Offer) (w : Word) → Has units o → Event.Answer w ≢ event_of first (carried b first o)
offered_first b o w (inl e) = λ q. let s = subst (λ (x : Offer). Event.Answer w ≡ event_of first (carried b first x)) (sym e) q in absurd (cc s)
offered_first b o w (inr (inl e)) = λ q. let s = subst (λ (x : Offer). Event.Answer w ≡ event_of first (carried b first x)) (sym e) q in absurd (cc s)
offered_first b o w (inr (inr (inl e))) = λ q. let s = subst (λ (x : Offer). Event.Answer w ≡ event_of first (carried b first x)) (sym e) q in absurd (cc s)
offered_first b o w (inr (inr (inr (inl e)))) = λ q. let s = subst (λ (x : Offer). Event.Answer w ≡ event_of first (carried b first x)) (sym e) q in absurd (cc s)
offered_first b o w (inr (inr (inr (inr h)))) = absurd h

pub no_answer_first : (b : Budget) (w : Word) (es : List Event) (t : State) → Run three b first (Event.Answer w ∷ es) t → ⊥
no_answer_first b w es t r = offered_only three b first (Event.Answer w) es t (λ k o known has. offered_first b o w has) r

-- The menus of the run in which the first offer is taken, once all is read. The three classes are pairwise apart.
abbrev apart_classes : Known
apart_classes = record { congruence = record { same = λ x y. x == y; apart = λ a b. not (a == b) }; regions = record { same = λ x y. x == y; apart = λ a b. not (a == b) } }

abbrev all_read : State → State
all_read s = record s { trail = record { entries = s.trail.entries; heads = heads_at (length s.trail.entries) } }

abbrev pub after_units : State
after_units = all_read (put (minus 4) 4 (put (minus 3) 3 (put (minus 2) 2 (put (minus 1) 1 next))))

bound_first : menu_of three after_units apart_classes ≡ Offer.Decide (lit true (Atom.Bound 1)) ∷ []
bound_first = refl

abbrev pub at_bound : State
at_bound = all_read (put_decision (plus 5) after_units)

size_next : menu_of three at_bound apart_classes ≡ Offer.Decide (lit true (card 0 1)) ∷ []
size_next = refl

-- two of them are the test of the sort
abbrev pub at_one : State
at_one = record (all_read (put_decision (plus 6) (know (card 0 1) at_bound))) { picks = Some (record { terms = 0 ∷ (1 ∷ []); pair = None }) ∷ [] }

clique_then : menu_of three at_one apart_classes ≡ Offer.Lemma Reader.Regions (Due.Clique 0) ∷ []
clique_then = refl

abbrev pub with_clique : State
with_clique = with_literals (clique_lemma 0 (0 ∷ (1 ∷ []))) at_one

then_learn : menu_of three with_clique apart_classes ≡ Offer.Learn 5 ∷ []
then_learn = refl

abbrev pub above_one : State
above_one = record (all_read (put (minus 6) 5 (back_to 0 with_clique))) { picks = None ∷ [] }

abbrev pub at_bound_again : State
at_bound_again = all_read (put_decision (plus 5) above_one)

sum_then : menu_of three at_bound_again apart_classes ≡ Offer.Lemma Reader.Sum Due.SumBound ∷ []
sum_then = refl

abbrev pub with_sum : State
with_sum = with_literals (sum_literals at_bound_again 0 (1 ∷ [])) at_bound_again

then_learn_again : menu_of three with_sum apart_classes ≡ Offer.Learn 6 ∷ []
then_learn_again = refl

abbrev pub above_bound : State
above_bound = all_read (put (minus 5) 6 (back_to 0 with_sum))

turn_then : menu_of three above_bound apart_classes ≡ Offer.Turn ∷ []
turn_then = refl

abbrev pub set_free : State
set_free = record above_bound { free = true }

raise_then : menu_of three set_free apart_classes ≡ Offer.Raise ∷ []
raise_then = refl

-- the clauses learnt and added so far
clauses_then : drop 5 set_free.clauses ≡ (minus 6 ∷ (plus 0 ∷ [])) ∷ ((plus 6 ∷ (minus 5 ∷ [])) ∷ [])
clauses_then = refl

-- The lines of the start, those of the two lemmas, and the clauses that they make.
abbrev term_of : ℕ → Line
term_of f = Line.Term (record { 0 = f }) []

abbrev instance_of : ℕ → Line
instance_of n = Line.Instance n []

start_written : start_lines three ≡ term_of 0 ∷ (term_of 1 ∷ (term_of 2 ∷ (instance_of 0 ∷ (instance_of 1 ∷ (instance_of 2 ∷ (Line.OrderZero (sort 0) ∷ (Line.Sum 0 (0 ∷ []) ∷ [])))))))
start_written = ap (λ (ts : List Term). ((lines_from 0 ts ++ ground_lines 0 three.clauses) ++ element_lines (range_with_len 0 1)) ++ sum_lines 1) start_terms

clique_written : due_line at_one apart_classes Reader.Regions (Due.Clique 0) (clique_lemma 0 (0 ∷ (1 ∷ []))) (record { pick = record { terms = 0 ∷ (1 ∷ []); pair = None }; there = refl; clique = refl; is = refl }) ≡ Line.Cardinality (sort 0) 1 (term_id 0 ∷ (term_id 1 ∷ []))
clique_written = refl

sum_written : due_line at_bound_again apart_classes Reader.Sum Due.SumBound (sum_literals at_bound_again 0 (1 ∷ [])) (record { ks = 1 ∷ []; bounds = refl; due = refl; is = refl }) ≡ Line.Sum 1 (1 ∷ [])
sum_written = refl

made_then : (made_of set_free).clauses ≡ (lit false (equality 0 1) ∷ []) ∷ ((lit false (equality 0 2) ∷ []) ∷ ((lit false (equality 1 2) ∷ []) ∷ ((lit false (card 0 0) ∷ []) ∷ ((lit true (card 0 0) ∷ (lit false (Atom.Bound 0) ∷ [])) ∷ ((lit false (card 0 1) ∷ (lit true (equality 0 1) ∷ [])) ∷ ((lit true (card 0 1) ∷ (lit false (Atom.Bound 1) ∷ [])) ∷ []))))))
made_then = refl
