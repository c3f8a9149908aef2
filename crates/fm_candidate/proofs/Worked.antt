-- The search over no sorts and no clauses, whose bound 0 is decided and read: only the last group of its menu is left.
use Rattle.std.proofs.Common.{◌≡◌, ℕ, ◌<◌, ◌==◌, Bool, true, false, List, [], ◌∷◌, ◌++◌, length, take, Some, inl, inr, refl, sym, subst, ap, ◌∙◌, arith}
use Rattle.std.specs.Prelude.{◌||◌, if◌then◌else◌, slice_get}
use Rattle.std.proofs.lemmas.Bool.{cases_Bool, eq-eqb, eqb-true, false≢true}
use Rattle.fm_base.specs.declared.ids.Lit.{Lit}
use Rattle.fm_base.specs.declared.ids.Reader.{Reader}
use Rattle.fm_base.specs.declared.signature.Rank.{Rank}
use Rattle.fm_base.specs.declared.signature.Sig.{Sig}
use Rattle.fm_bank.specs.Closure.{Follows, IsClosed, no, yes}
use Rattle.fm_bank.specs.Interning.{Held, after_atom, nothing_over}
use Rattle.fm_bank.specs.Tests.{AreTests, Tests}
use Rattle.fm_bank.specs.declared.atom.Atom.{Atom}
use Rattle.fm_bank.specs.declared.clause.Clause.{Clause}
use Rattle.fm_candidate.specs.Found.{IsLast}
use Rattle.fm_cong.specs.Held.{Held as Graph, nothing}
use Rattle.fm_guide.specs.declared.event.Event.{Event}
use Rattle.fm_sat.specs.Store.{HasNoFalse}
use Rattle.fm_steps.specs.Lemmas.{Due}
use Rattle.fm_steps.specs.Menu.{first_lemmas, menu_of}
use Rattle.fm_steps.specs.Picks.{IsKnown, Known, Settles}
use Rattle.fm_steps.specs.Rows.{Offer}
use Rattle.fm_steps.specs.Runs.{IsReached, IsStart, Step}
use Rattle.fm_steps.specs.Searchable.{HasLastAlone, IsSearchable}
use Rattle.fm_steps.specs.Sizes.{lit}
use Rattle.fm_steps.specs.Start.{first_state}
use Rattle.fm_steps.specs.State.{Budget, Problem, State, decided, put_decision, read_one}
use Rattle.fm_trail.specs.Trail.{head_of}
use Rattle.fm_trail.specs.declared.entry.Entry.{Entry}

abbrev pub bare_sig : Sig
bare_sig = record { sorts = 0; ranks = [] }

abbrev pub bare : Problem
bare = record { sig = bare_sig; user = 0; clauses = [] }

abbrev pub bare_held : Held
bare_held = after_atom (nothing_over bare_sig) (Atom.Bound 0)

pub bare_searchable : IsSearchable bare
bare_searchable = record { named = refl; declared = λ f rank at. absurd (cc at); sorted = refl; fresh = refl }

-- equal numbers are related, and nothing is apart
abbrev numbers : Tests
numbers = record { same = λ x y. x == y; apart = λ a b. false }

numbers_closed : IsClosed [] [] (λ x y. x == y)
numbers_closed = record {
  reflexive = λ x. eq-eqb x x refl;
  symmetric = λ x y h. eq-eqb y x (sym (eqb-true x y h));
  transitive = λ x y z h k. eq-eqb x z (eqb-true x y h ∙ eqb-true y z k);
  facts_hold = λ k d lt. absurd (omega (arith, lt));
  congruent = λ k d lt. absurd (omega (arith, lt));
}

equal_follows : (x y : ℕ) → (x == y) ≡ true → Follows [] [] x y
equal_follows x y h R closed = subst (λ z. R x z ≡ true) (eqb-true x y h) (closed.reflexive x)

nothing_read : AreTests [] [] [] numbers
nothing_read = record {
  same_is = λ x y. (equal_follows x y, λ h. h (λ u v. u == v) numbers_closed);
  apart_is = λ a b. (λ h. absurd (false≢true h), λ h. absurd h);
}

abbrev known : Known
known = record { congruence = numbers; regions = numbers }

-- the run: the bound is decided, and the four readers read that
abbrev budget : Budget
budget = record { instances = 1; decisions = 1 }

abbrev bound : Lit
bound = record { atom = record { 0 = 0 }; positive = true }

abbrev start : State
start = first_state bare

abbrev at_bound : State
at_bound = decided (put_decision bound start)

abbrev read_first : State
read_first = read_one Reader.Congruence at_bound

abbrev read_second : State
read_second = read_one Reader.Regions read_first

abbrev read_third : State
read_third = read_one Reader.Sum read_second

abbrev all_read : State
all_read = read_one Reader.Instances read_third

starts : IsStart bare start
starts = record { known = known; is_known = record { congruence = nothing_read; regions = nothing_read }; picks = []; are_picks = refl; after = refl }

decides : Step bare budget start (Event.Decide bound) at_bound
decides = record {
  known = known;
  is_known = record { congruence = nothing_read; regions = nothing_read };
  place = 0;
  offer = Offer.Decide (lit true (Atom.Bound 0));
  there = refl;
  move = record {
    mid = at_bound;
    row = record { room = omega arith; unset = refl; after = refl };
    settles = record { known = known; is_known = record { congruence = nothing_read; regions = nothing_read }; picks = []; are_picks = refl; after = refl };
  };
  event = refl;
}

quiet : (es : List Entry) → HasNoFalse [] es
quiet es i c at = absurd (cc at)

takes : (r : Reader) (s : State) → slice_get (menu_of bare s known) 0 ≡ Some (Offer.Take r) → IsKnown s known → HasNoFalse s.clauses s.trail.entries
    → head_of s.trail.heads r < length s.trail.entries → Settles (read_one r s) (read_one r s) → Step bare budget s (Event.Take r) (read_one r s)
takes r s offered is none left settles = record {
  known = known;
  is_known = is;
  place = 0;
  offer = Offer.Take r;
  there = offered;
  move = record { mid = read_one r s; row = record { quiet = none; left = left; after = refl }; settles = settles };
  event = refl;
}

reached : IsReached bare budget (Event.Decide bound ∷ (Event.Take Reader.Congruence ∷ (Event.Take Reader.Regions ∷ (Event.Take Reader.Sum ∷ (Event.Take Reader.Instances ∷ []))))) all_read
reached =
    let is : AreTests [] [] [] numbers = nothing_read in
    record {
      first = start;
      start = starts;
      run = (
        at_bound,
        decides,
        λ h. absurd (cc h.1),
        (
          read_first,
          takes Reader.Congruence at_bound refl (record { congruence = is; regions = is }) (quiet at_bound.trail.entries) (omega arith) (record { known = known; is_known = record { congruence = is; regions = is }; picks = []; are_picks = refl; after = refl }),
          λ h. absurd (cc h.1),
          (
            read_second,
            takes Reader.Regions read_first refl (record { congruence = is; regions = is }) (quiet at_bound.trail.entries) (omega arith) (record { known = known; is_known = record { congruence = is; regions = is }; picks = []; are_picks = refl; after = refl }),
            λ h. absurd (cc h.1),
            (
              read_third,
              takes Reader.Sum read_second refl (record { congruence = is; regions = is }) (quiet at_bound.trail.entries) (omega arith) (record { known = known; is_known = record { congruence = is; regions = is }; picks = []; are_picks = refl; after = refl }),
              λ h. absurd (cc h.1),
              (all_read, takes Reader.Instances read_third refl (record { congruence = is; regions = is }) (quiet at_bound.trail.entries) (omega arith) (record { known = known; is_known = record { congruence = is; regions = is }; picks = []; are_picks = refl; after = refl }), λ h. absurd (cc h.1), refl),
            ),
          ),
        ),
      );
    }

-- no tests join yes and no, so there is no clash
no_clash : (t : Tests) → AreTests [] [] [] t → t.same yes no ≡ false
no_clash t is = elim (cases_Bool (t.same yes no)) [
  | inl there ↦ absurd (false≢true ((is.same_is yes no).0 there (λ x y. x == y) numbers_closed))
  | inr not_there ↦ not_there
]

no_lemma : (k : Known) → AreTests [] [] [] k.congruence → first_lemmas all_read k ≡ []
no_lemma k is = ap (λ (clash : Bool). take 1 ((if clash || false then Offer.Lemma Reader.Congruence Due.Clash ∷ [] else []) ++ []) ++ []) (no_clash k.congruence is)

alone : (k : Known) → IsKnown all_read k → HasLastAlone all_read k
alone k is = record { conflicts = refl; units = refl; takes = refl; lemmas = no_lemma k is.congruence; turns = refl; decisions = refl; splits = refl }

pub bare_last : IsLast bare bare_held nothing []
bare_last = record {
  state = all_read;
  budget = budget;
  events = Event.Decide bound ∷ (Event.Take Reader.Congruence ∷ (Event.Take Reader.Regions ∷ (Event.Take Reader.Sum ∷ (Event.Take Reader.Instances ∷ []))));
  reached = reached;
  held_is = refl;
  added_is = refl;
  bounded = refl;
  alone = alone;
  tests = λ t h. h;
  over = record { terms = λ k d lt. absurd (omega (arith, lt)); registered = λ n lt. absurd (omega (arith, lt)); atoms = λ k d lt. absurd (omega (arith, lt)) };
}

-- and so it is of parts that are equal to these
pub last_of : (ranks : List Rank) (clauses : List Clause) (before held : Held) (g : Graph) → ranks ≡ [] → clauses ≡ []
    → before ≡ nothing_over (record { sorts = 0; ranks = ranks }) → held ≡ after_atom before (Atom.Bound 0) → g ≡ nothing
    → IsLast (record { sig = record { sorts = 0; ranks = ranks }; user = 0; clauses = clauses }) held g []
last_of ranks clauses before held g rs cs b h e =
    let same : held ≡ bare_held = h ∙ ap (λ (x : Held). after_atom x (Atom.Bound 0)) (b ∙ ap (λ (r : List Rank). nothing_over (record { sorts = 0; ranks = r })) rs) in
    subst (λ (r : List Rank). IsLast (record { sig = record { sorts = 0; ranks = r }; user = 0; clauses = clauses }) held g []) (sym rs)
    (subst (λ (k : List Clause). IsLast (record { sig = bare_sig; user = 0; clauses = k }) held g []) (sym cs)
    (subst (λ (x : Held). IsLast bare x g []) (sym same) (subst (λ (x : Graph). IsLast bare bare_held x []) (sym e) bare_last)))
