-- What the candidate of a run is made of fits together.
use Rattle.std.proofs.Common.{◌≡◌, ℕ, zero, suc, ◌+◌, ◌-◌, Bool, true, false, cond, List, [], ◌∷◌, ◌++◌, drop, length, map, Some, None, inl, inr, refl, sym, ap, subst, ◌∙◌, arith}
use Rattle.std.specs.Prelude.{Option, slice_get}
use Rattle.std.specs.List.{list_any, range_with_len}
use Rattle.std.proofs.lemmas.Bool.{and_parts, false≢true}
use Rattle.fm_base.specs.Resolution.{Has}
use Rattle.fm_base.specs.declared.signature.Rank.{Rank}
use Rattle.fm_base.specs.declared.signature.Sig.{Sig}
use Rattle.fm_base.specs.declared.signature.Ty.{Ty}
use Rattle.fm_base.proofs.Resolution.{mapped_has}
use Rattle.fm_bank.specs.Instances.{types_of}
use Rattle.fm_bank.specs.Interning.{IsFront, with_term}
use Rattle.fm_bank.specs.Terms.{Term, are_of_types, are_terms, is_application, is_same, is_type, type_in, type_of}
use Rattle.fm_bank.proofs.Growing.{front-refl, front-trans}
use Rattle.fm_bank.proofs.Keys.{same_term}
use Rattle.fm_guide.specs.declared.event.Event.{Event}
use Rattle.fm_rounds.specs.Fresh.{bare_sorts, constant_of}
use Rattle.fm_rounds.specs.Grounds.{AreTermsOf, ArgumentsIn}
use Rattle.fm_rounds.specs.InstanceTerms.{clause_terms, clauses_ground_grown, fresh_symbols}
use Rattle.fm_rounds.specs.Rounds.{Content, literals_at}
use Rattle.fm_rounds.proofs.Meeting.{starts_are_inhabited}
use Rattle.fm_rounds.proofs.Members.{any_in, in_left, in_right}
use Rattle.fm_rounds.proofs.Subterms.{instance_terms_hold, start_terms_hold}
use Rattle.fm_steps.specs.Lines.{IsSorted, IsWellHeld, is_constant}
use Rattle.fm_steps.specs.Picks.{Known}
use Rattle.fm_steps.specs.Rows.{Offer, content_at}
use Rattle.fm_steps.specs.Runs.{Move, Run, carried}
use Rattle.fm_steps.specs.Searchable.{AddedAreTerms, ContentsAreGrounded, IsSearchable, RunsHaveStartTerms, SearchableAreSorted}
use Rattle.fm_steps.specs.Start.{constants_grown, first_terms}
use Rattle.fm_steps.specs.State.{Budget, Problem, State}
use Rattle.fm_steps.proofs.Adding.{TermsGrow, instances_stand, row_adds}
use Rattle.fm_steps.proofs.Begun.{constants_front, starts_held}
use Rattle.fm_steps.proofs.Due.{in_all}
use Rattle.fm_steps.proofs.Held.{steps_stay_held}
use Rattle.fm_steps.proofs.Runs.{runs_stay_held}
use Rattle.fm_steps.proofs.Starts.{start_terms}
use Rattle.fm_steps.proofs.Typed.{tests_are_typed}
use Rattle.fm_steps.proofs.Written.{has_place}

-- the fresh symbols are constants
range_place : (a n i f : ℕ) → slice_get (range_with_len a n) i ≡ Some f → f ≡ a + i
range_place a zero i f e = absurd (cc e)
range_place a (suc n) zero f e = let same : a ≡ f = cc e in omega (arith, same)
range_place a (suc n) (suc i) f e = let r = range_place (a + 1) n i f e in omega (arith, r)

drop_place : {X : Type 0} (xs : List X) (k i : ℕ) → slice_get (drop k xs) i ≡ slice_get xs (k + i)
drop_place xs zero i = let z : i ≡ 0 + i = omega arith in ap (slice_get xs) z
drop_place [] (suc k) i = refl
drop_place (x ∷ xs) (suc k) i = drop_place xs k i ∙ ap (slice_get (x ∷ xs)) (let z : suc (k + i) ≡ suc k + i = omega arith in z)

rank_place : (ranks : List Rank) (i f : ℕ) → slice_get (range_with_len 0 (length ranks)) i ≡ Some f → (r : Rank) × (slice_get ranks i ≡ Some r)
rank_place ranks i f e = at ranks 0 i e
  where
    at : (rs : List Rank) (a j : ℕ) → slice_get (range_with_len a (length rs)) j ≡ Some f → (r : Rank) × (slice_get rs j ≡ Some r)
    at [] a j g = absurd (cc g)
    at (r ∷ rs) a zero g = (r, refl)
    at (r ∷ rs) a (suc j) g = at rs (a + 1) j g

constant_rank : (sorts : List ℕ) (i : ℕ) (r : Rank) → slice_get (map constant_of sorts) i ≡ Some r → (s : ℕ) × (r ≡ constant_of s)
constant_rank [] i r e = absurd (cc e)
constant_rank (s ∷ ss) zero r e = (s, sym (cc e))
constant_rank (s ∷ ss) (suc i) r e = constant_rank ss i r e

symbol_constant : (p : Problem) → IsSearchable p → (f : ℕ) → Has (fresh_symbols p) f → is_constant p f ≡ true
symbol_constant p h f has =
    let all = length p.sig.ranks in
    let first = all - length (bare_sorts p) in
    let at = has_place (fresh_symbols p) f has in
    let here : slice_get (range_with_len 0 all) (first + at.0) ≡ Some f = sym (drop_place (range_with_len 0 all) first at.0) ∙ at.1 in
    let number : f ≡ first + at.0 = (let r = range_place 0 all (first + at.0) f here in omega (arith, r)) in
    let rank = rank_place p.sig.ranks (first + at.0) f here in
    let constant = constant_rank (bare_sorts p) at.0 rank.0 (ap (λ (rs : List Rank). slice_get rs at.0) (sym h.fresh) ∙ (drop_place p.sig.ranks first at.0 ∙ rank.1)) in
    let is : slice_get p.sig.ranks f ≡ Some (constant_of constant.0) = ap (slice_get p.sig.ranks) number ∙ (rank.1 ∙ ap Some constant.1) in
    subst (λ (o : Option Rank). is_application p.sig [] o [] ≡ true) (sym is) refl

pub searchable_are_sorted : SearchableAreSorted
searchable_are_sorted p h = record { clauses = h.sorted; constants = in_all (is_constant p) (fresh_symbols p) (symbol_constant p h) }

-- the terms at the start stay
constant_put : (terms : List Term) (t : Term) (b : Bool) → list_any (is_same t) terms ≡ b → Has (cond b terms (terms ++ t ∷ [])) t
constant_put terms t true e = let w = any_in (is_same t) terms e in subst (Has terms) (sym (same_term t w.0 w.2)) w.1
constant_put terms t false e = in_right t terms (t ∷ []) (inl refl)

in_front : {X : Type 0} (xs ys : List X) (x : X) → IsFront xs ys → Has xs x → Has ys x
in_front {X} xs ys x f h = subst (λ (zs : List X). Has zs x) f.1 (in_left x xs f.0 h)

constants_put : (fs : List ℕ) (terms : List Term) (f : ℕ) → Has fs f → Has (constants_grown fs terms) (record { symbol = f; args = [] })
constants_put [] terms f h = absurd h
constants_put (g ∷ fs) terms f (inl e) =
    let t : Term = record { symbol = g; args = [] } in
    let next = with_term terms t in
    subst (λ n. Has (constants_grown (g ∷ fs) terms) (record { symbol = n; args = [] })) e (in_front next (constants_grown fs next) t (constants_front fs next) (constant_put terms t (list_any (is_same t) terms) refl))
constants_put (g ∷ fs) terms f (inr h) = constants_put fs (with_term terms (record { symbol = g; args = [] })) f h

move_terms : (p : Problem) (b : Budget) (s : State) (k : Known) (t : State) (o : Offer) → IsSorted p → IsWellHeld p s → Move p b s k o t → TermsGrow s t
move_terms p b s k t o sorted w m = subst (IsFront s.held.terms) (sym (ap (λ (u : State). u.held.terms) m.settles.after)) (row_adds p b s k o m.mid sorted w m.row).0

run_terms : (p : Problem) (b : Budget) (s : State) (es : List Event) (t : State) → IsSorted p → IsWellHeld p s → Run p b s es t → TermsGrow s t
run_terms p b s [] t sorted w r = subst (TermsGrow s) (sym r) (front-refl s.held.terms)
run_terms p b s (e ∷ es) t sorted w r =
    let next = r.0 in
    front-trans s.held.terms next.held.terms t.held.terms (move_terms p b s r.1.known next (carried b s r.1.offer) sorted w r.1.move) (run_terms p b next es t sorted (steps_stay_held p b s e next sorted w r.1) r.3)

pub runs_have_start_terms : RunsHaveStartTerms
runs_have_start_terms p b events s sorted h =
    let begun : h.first.held.terms ≡ first_terms p = start_terms p h.first h.start in
    let front : IsFront (first_terms p) s.held.terms = subst (λ (ts : List Term). IsFront ts s.held.terms) begun (run_terms p b h.first events s sorted (starts_held p h.first sorted h.start) h.run) in
    let ground = clauses_ground_grown p.clauses [] in
    record {
      ground = front-trans ground (first_terms p) s.held.terms (constants_front (fresh_symbols p) ground) front;
      constants = λ f q. in_front (first_terms p) s.held.terms (record { symbol = f; args = [] }) front (constants_put (fresh_symbols p) ground f q);
    }

-- what stands for variables are terms
some_term : (sig : Sig) (o : Option Term) (u : Ty) → is_type (type_in sig o) u ≡ true → (t : Term) × (o ≡ Some t)
some_term sig None u e = absurd (false≢true e)
some_term sig (Some t) u e = (t, refl)

typed_terms : (sig : Sig) (terms : List Term) (ns : List ℕ) (us : List Ty) → are_of_types sig terms ns us ≡ true → AreTermsOf terms ns
typed_terms sig terms [] us e n h = absurd h
typed_terms sig terms (m ∷ ns) [] e n h = absurd (false≢true e)
typed_terms sig terms (m ∷ ns) (u ∷ us) e n (inl s) = subst (λ i. (t : Term) × (slice_get terms i ≡ Some t)) s (some_term sig (slice_get terms m) u (and_parts (is_type (type_of sig terms m) u) (are_of_types sig terms ns us) e).0)
typed_terms sig terms (m ∷ ns) (u ∷ us) e n (inr h) = typed_terms sig terms ns us (and_parts (is_type (type_of sig terms m) u) (are_of_types sig terms ns us) e).1 n h

pub added_are_terms : AddedAreTerms
added_are_terms p b events s sorted h i has = let a = instances_stand p b events s sorted h i.0 i.1 has in typed_terms p.sig s.held.terms i.1 (types_of a.clause.vars) a.typed

pub contents_are_grounded : ContentsAreGrounded
contents_are_grounded p b events s k search h is =
    let sorted = searchable_are_sorted p search in
    let terms = s.held.terms in
    let w = runs_stay_held p b events s sorted h in
    let t = tests_are_typed p b events s k sorted h is in
    let c : Content = content_at p s k in
    let fine : (i : List ℕ × List ℕ) → Has c.added i → AreTermsOf terms i.1 × ArgumentsIn terms i.1 i.0 = λ i q.
    let m = mapped_has (λ (j : ℕ × List ℕ). (j.1, clause_terms terms j.1 (literals_at p.clauses j.0))) s.added i q in
    let law = instance_terms_hold terms m.lit.1 (literals_at p.clauses m.lit.0) in
    subst (λ (j : List ℕ × List ℕ). AreTermsOf terms j.1 × ArgumentsIn terms j.1 j.0) m.is (law.there (added_are_terms p b events s sorted h m.lit m.has), law.closed) in
    record {
      terms = subst (λ (sig : Sig). are_terms sig terms ≡ true) w.sig t.terms;
      declared = search.declared;
      reflexive = t.reflexive;
      symmetric = t.symmetric;
      transitive = t.transitive;
      congruent = λ n m u v hn hm eu ev. t.congruent n m u v eu ev;
      typed = λ n m e. subst (λ (sig : Sig). type_of sig terms n ≡ type_of sig terms m) w.sig (t.typed n m e);
      start_terms = (start_terms_hold p terms).there;
      start_closed = (start_terms_hold p terms).closed;
      added_terms = λ i q. (fine i q).0;
      added_closed = λ i q. (fine i q).1;
      inhabited = starts_are_inhabited p terms search.fresh (runs_have_start_terms p b events s sorted h);
    }
