-- Where groups 1 to 6 of the menu are empty the content makes true what the trail does, so the added instances over
-- representatives are true in the candidate.
use Rattle.std.proofs.Common.{◌≡◌, ℕ, zero, suc, ◌≤◌, Bool, true, false, not, cond, nat_lt, List, [], ◌∷◌, length, map, take, Some, None, inl, inr, refl, sym, ap, subst, ◌∙◌, arith}
use Rattle.std.specs.Prelude.{Option, slice_get}
use Rattle.std.proofs.lemmas.Bool.{cases_Bool, false≢true, ltb-false, or_left, or_right, true≢false}
use Rattle.fm_base.specs.Resolution.{Has}
use Rattle.fm_base.specs.declared.ids.Reader.{Reader}
use Rattle.fm_base.specs.declared.signature.Sig.{Sig}
use Rattle.fm_base.proofs.Resolution.{has_mapped, mapped_has}
use Rattle.fm_bank.specs.Closure.{Follows, Shape, no, object, yes}
use Rattle.fm_bank.specs.Interning.{first_places, is_atom, lit_in}
use Rattle.fm_bank.specs.declared.atom.Atom.{Atom}
use Rattle.fm_bank.specs.declared.clause.Clause.{Clause as FirstOrderClause}
use Rattle.fm_bank.specs.declared.literal.Literal.{Literal}
use Rattle.fm_guide.specs.declared.event.Word.{Word}
use Rattle.fm_rounds.specs.Grounds.{literal_by}
use Rattle.fm_rounds.specs.Rounds.{Content, candidate_reading, representatives}
use Rattle.fm_rounds.specs.Soundness.{IsTrueBy}
use Rattle.fm_rounds.proofs.AddedTrue.{IsGround, added_are_true, literals_ground}
use Rattle.fm_rounds.proofs.Members.{any_in, filter_in, flat_in, in_any, in_left, in_right}
use Rattle.fm_rounds.proofs.Newness.{failing_new}
use Rattle.fm_rounds.proofs.ReadAlike.{tables_read_alike}
use Rattle.fm_trail.specs.declared.entry.Entry.{Entry}
use Rattle.fm_trail.specs.Trail.{head_of, is_true, is_value}
use Rattle.fm_steps.specs.Bounds.{AddedStand}
use Rattle.fm_steps.specs.Content.{all_shapes, equal_pair, facts_in, has_clash, is_size, literal_at, literals_of, pairs_in, predicate_term, terms_in}
use Rattle.fm_steps.specs.Facts.{IsLawful}
use Rattle.fm_steps.specs.Lemmas.{is_known}
use Rattle.fm_steps.specs.Lines.{IsWellHeld}
use Rattle.fm_steps.specs.Menu.{clause_atoms, decisions_of, first_lemmas, free_decisions, menu_of, or_else, readers, size_decisions, takes_of, units_from}
use Rattle.fm_steps.specs.Picks.{IsKnown, Known, read_literals}
use Rattle.fm_steps.specs.Rows.{Offer, content_at, is_satisfied, with_instance}
use Rattle.fm_steps.specs.Searchable.{HasLastAlone, InstanceIsMet, InstancesHold, LastStandsAlone}
use Rattle.fm_steps.specs.Sizes.{is_unvalued, lit}
use Rattle.fm_steps.specs.State.{Problem, State, read_by, value_by}
use Rattle.fm_steps.proofs.Adding.{instances_stand}
use Rattle.fm_steps.proofs.Bounded.{entry_by}
use Rattle.fm_steps.proofs.Contents.{contents_are_grounded, searchable_are_sorted}
use Rattle.fm_steps.proofs.Due.{all_in, atom_step, in_all, known_has}
use Rattle.fm_steps.proofs.Lists.{Has-get, append_none}
use Rattle.fm_steps.proofs.Menus.{decided_all, kind, quiet_before}
use Rattle.fm_steps.proofs.Numbered.{instance_fails}
use Rattle.fm_steps.proofs.Numbers.{get_place, known_any}
use Rattle.fm_steps.proofs.Offered.{all_satisfied, cond_none, congruence_part, else_none, flat_none}
use Rattle.fm_steps.proofs.Ready.{instance_ready, quiet_at}
use Rattle.fm_steps.proofs.Running.{reached_good}
use Rattle.fm_steps.proofs.Runs.{runs_stay_held}
use Rattle.fm_steps.proofs.Shown.{fact_follows, follows_sym, follows_trans}
use Rattle.fm_steps.proofs.Written.{placed_same}

-- the last group alone
last_alone : (p : Problem) (s : State) (k : Known) (o : Offer) → kind o ≡ 7 → Has (menu_of p s k) o → HasLastAlone s k
last_alone p s k o seven h =
    let g = quiet_before p s k o (omega (arith, seven)) h in
    let d = decided_all p s k o seven h in
    let u = append_none (units_from 0 s.trail.entries s.clauses) (takes_of s) g.1 in
    record { conflicts = g.0; units = u.0; takes = u.1; lemmas = g.2; turns = g.3; decisions = d.0; splits = d.1 }

pub last_stands_alone : LastStandsAlone
last_stands_alone p s k (Offer.Instance i env) is h = last_alone p s k (Offer.Instance i env) refl h
last_stands_alone p s k (Offer.Answer Word.Sat) is h = last_alone p s k (Offer.Answer Word.Sat) refl h
last_stands_alone p s k Offer.Raise is h = last_alone p s k Offer.Raise refl h
last_stands_alone p s k o is h = absurd is

-- all was read
take_all : {X : Type 0} (n : ℕ) (xs : List X) → length xs ≤ n → take n xs ≡ xs
take_all zero [] le = refl
take_all zero (x ∷ xs) le = absurd (omega (arith, le))
take_all (suc n) [] le = refl
take_all (suc n) (x ∷ xs) le = ap (λ ys. x ∷ ys) (take_all n xs (omega (arith, le)))

at_end : (b : Bool) (x : Offer) (m n : ℕ) → nat_lt m n ≡ b → cond b (x ∷ []) [] ≡ [] → n ≤ m
at_end true x m n e f = absurd (cc f)
at_end false x m n e f = ltb-false m n e

reader_place : (r : Reader) → Has readers r
reader_place Reader.Congruence = inl refl
reader_place Reader.Regions = inr (inl refl)
reader_place Reader.Sum = inr (inr (inl refl))
reader_place Reader.Instances = inr (inr (inr (inl refl)))

pub all_read : (s : State) (r : Reader) → takes_of s ≡ [] → read_by r s ≡ s.trail.entries
all_read s r none =
    let here = flat_none (λ q. cond (nat_lt (head_of s.trail.heads q) (length s.trail.entries)) (Offer.Take q ∷ []) []) readers r none (reader_place r) in
    take_all (head_of s.trail.heads r) s.trail.entries (at_end (nat_lt (head_of s.trail.heads r) (length s.trail.entries)) (Offer.Take r) (head_of s.trail.heads r) (length s.trail.entries) refl here)

-- bounded: no atom of a clause is left
bounded_none : (f u : Bool) (xs ys zs : List Offer) (x : Offer) → f ≡ false → cond f xs (cond u (x ∷ []) (or_else ys zs)) ≡ [] → (u ≡ false) × (ys ≡ []) × (zs ≡ [])
bounded_none true u xs ys zs x e h = absurd (true≢false e)
bounded_none false true xs ys zs x e h = absurd (cc h)
bounded_none false false xs ys zs x e h = let p = else_none ys zs h in (refl, p.0, p.1)

pub none_left : (s : State) → s.free ≡ false → decisions_of s ≡ [] → (is_unvalued s (Atom.Bound s.bound) ≡ false) × (size_decisions s ≡ []) × (clause_atoms s ≡ [])
none_left s bounded none = bounded_none s.free (is_unvalued s (Atom.Bound s.bound)) (or_else (free_decisions s) (clause_atoms s)) (size_decisions s) (clause_atoms s) (Offer.Decide (lit true (Atom.Bound s.bound))) bounded none

pub no_clash : (s : State) (k : Known) → first_lemmas s k ≡ [] → has_clash (read_literals Reader.Congruence s) k.congruence ≡ false
no_clash s k none = cond_none (has_clash (read_literals Reader.Congruence s) k.congruence) _ (append_none _ _ (congruence_part s k none)).0

-- a literal that is true on a trail is among its literals
one_literal : (positive : Bool) (o : Option Atom) (l : Literal) → o ≡ Some l.atom → positive ≡ l.positive → Has (literal_at positive o) l
one_literal positive None l e f = absurd (cc e)
one_literal positive (Some a) l e f = let same : a ≡ l.atom = cc e in inl (λ i. record { positive = f i; atom = same i })

pub true_among : (s : State) (es : List Entry) (l : Literal) → is_known s l.atom ≡ true → is_true es (lit_in s.held.atoms l) ≡ true → Has (literals_of s.held.atoms es) l
true_among s es l known e =
    let n = (lit_in s.held.atoms l).atom.0 in
    let place = get_place s.held.atoms l.atom (known_any s.held.atoms l.atom known) in
    let d = entry_by es n l.positive (valued (value_by es n) l.positive e) in
    flat_in (λ (x : Entry). literal_at x.lit.positive (slice_get s.held.atoms x.lit.atom.0)) l es d.entry (Has-get es d.place d.entry d.at)
    (one_literal d.entry.lit.positive (slice_get s.held.atoms d.entry.lit.atom.0) l (ap (slice_get s.held.atoms) d.atom ∙ place) (d.sign ∙ twice l.positive))
  where
    twice : (b : Bool) → not (not b) ≡ b
    twice true = refl
    twice false = refl

    valued : (o : Option Bool) (v : Bool) → is_value o v ≡ true → o ≡ Some v
    valued None v h = absurd (false≢true h)
    valued (Some true) true h = refl
    valued (Some true) false h = absurd (false≢true h)
    valued (Some false) true h = absurd (false≢true h)
    valued (Some false) false h = refl

ground_size : (a : Atom) → IsGround a → is_size a ≡ false
ground_size (Atom.Equal a b) h = refl
ground_size (Atom.Pred t) h = refl
ground_size (Atom.Card u k) h = absurd h
ground_size (Atom.Bound n) h = absurd h

module _ (s : State) (k : Known) (is : IsKnown s k) (takes : takes_of s ≡ []) (calm : has_clash (read_literals Reader.Congruence s) k.congruence ≡ false) where
  abbrev read : List Literal
  read = read_literals Reader.Congruence s

  abbrev shapes : List Shape
  shapes = all_shapes s.held

  abbrev same : ℕ → ℕ → Bool
  same = k.congruence.same

  follows : (x y : ℕ) → same x y ≡ true → Follows shapes (facts_in read) x y
  follows x y e = (is.congruence.same_is x y).0 e

  tells : (x y : ℕ) → Follows shapes (facts_in read) x y → same x y ≡ true
  tells x y e = (is.congruence.same_is x y).1 e

  true_read : (l : Literal) → is_size l.atom ≡ false → is_known s l.atom ≡ true → is_true s.trail.entries (lit_in s.held.atoms l) ≡ true → Has read l
  true_read l ground known e =
      filter_in (λ (x : Literal). not (is_size x.atom)) l (literals_of s.held.atoms (read_by Reader.Congruence s)) (subst (λ (es : List Entry). Has (literals_of s.held.atoms es) l) (sym (all_read s Reader.Congruence takes)) (true_among s s.trail.entries l known e)) (ap not ground)

  pair_read : (wanted : Bool) (a b : ℕ) (l : Literal) → Has read l → Has (equal_pair wanted l.positive l.atom) (a, b) → Has (pairs_in wanted read) (a, b)
  pair_read wanted a b l h q = flat_in (λ (x : Literal). equal_pair wanted x.positive x.atom) (a, b) read l h q

  term_read : (wanted : Bool) (t : ℕ) (l : Literal) → Has read l → Has (predicate_term wanted l.positive l.atom) t → Has (terms_in wanted read) t
  term_read wanted t l h q = flat_in (λ (x : Literal). predicate_term wanted x.positive x.atom) t read l h q

  pair_fact : (a b : ℕ) → Has (pairs_in true read) (a, b) → Has (facts_in read) (object a, object b)
  pair_fact a b h = in_left (object a, object b) (map (λ (p : ℕ × ℕ). (object p.0, object p.1)) (pairs_in true read)) _ (has_mapped (λ (p : ℕ × ℕ). (object p.0, object p.1)) (pairs_in true read) (a, b) h)

  yes_fact : (t : ℕ) → Has (terms_in true read) t → Has (facts_in read) (object t, yes)
  yes_fact t h =
      in_right (object t, yes) (map (λ (p : ℕ × ℕ). (object p.0, object p.1)) (pairs_in true read)) _
      (in_left (object t, yes) (map (λ u. (object u, yes)) (terms_in true read)) _ (has_mapped (λ u. (object u, yes)) (terms_in true read) t h))

  no_fact : (t : ℕ) → Has (terms_in false read) t → Has (facts_in read) (object t, no)
  no_fact t h =
      in_right (object t, no) (map (λ (p : ℕ × ℕ). (object p.0, object p.1)) (pairs_in true read)) _
      (in_right (object t, no) (map (λ u. (object u, yes)) (terms_in true read)) _ (has_mapped (λ u. (object u, no)) (terms_in false read) t h))

  -- what was read is so by the test
  pub same_side : (a b : ℕ) → Has (pairs_in true read) (a, b) → same (object a) (object b) ≡ true
  same_side a b h = tells (object a) (object b) (fact_follows shapes (facts_in read) (object a) (object b) (pair_fact a b h))

  pub other_side : (a b : ℕ) → Has (pairs_in false read) (a, b) → same (object a) (object b) ≡ false
  other_side a b h =
      elim (cases_Bool (same (object a) (object b))) [
        | inl t ↦ absurd (true≢false (sym (or_right (same yes no) _ (in_any (λ (p : ℕ × ℕ). same (object p.0) (object p.1)) (pairs_in false read) (a, b) h t)) ∙ calm))
        | inr f ↦ f
      ]

  holds_here : (t : ℕ) → Has (terms_in true read) t → same (object t) yes ≡ true
  holds_here t h = tells (object t) yes (fact_follows shapes (facts_in read) (object t) yes (yes_fact t h))

  fails_here : (t : ℕ) → Has (terms_in false read) t → same (object t) yes ≡ false
  fails_here t h =
      elim (cases_Bool (same (object t) yes)) [
        | inl e ↦ (let facts = facts_in read in
            let to_no = fact_follows shapes facts (object t) no (no_fact t h) in
            let both = follows_trans shapes facts yes (object t) no (follows_sym shapes facts (object t) yes (follows (object t) yes e)) to_no in
            absurd (true≢false (sym (or_left (same yes no) _ (tells yes no both)) ∙ calm)))
        | inr f ↦ f
      ]

  literal_so : (positive : Bool) (a : Atom) → IsGround a → Has read (record { positive = positive; atom = a }) → (c : Content) → c.same ≡ same → literal_by c (record { positive = positive; atom = a }) ≡ true
  literal_so true (Atom.Equal a b) g h c e = ap (λ (f : ℕ → ℕ → Bool). f (object a.0) (object b.0)) e ∙ same_side a.0 b.0 (pair_read true a.0 b.0 (lit true (Atom.Equal a b)) h (inl refl))
  literal_so false (Atom.Equal a b) g h c e = ap not (ap (λ (f : ℕ → ℕ → Bool). f (object a.0) (object b.0)) e ∙ other_side a.0 b.0 (pair_read false a.0 b.0 (lit false (Atom.Equal a b)) h (inl refl)))
  literal_so true (Atom.Pred t) g h c e = ap (λ (f : ℕ → ℕ → Bool). f (object t.0) yes) e ∙ holds_here t.0 (term_read true t.0 (lit true (Atom.Pred t)) h (inl refl))
  literal_so false (Atom.Pred t) g h c e = ap not (ap (λ (f : ℕ → ℕ → Bool). f (object t.0) yes) e ∙ fails_here t.0 (term_read false t.0 (lit false (Atom.Pred t)) h (inl refl)))
  literal_so positive (Atom.Card u j) g h c e = absurd g
  literal_so positive (Atom.Bound n) g h c e = absurd g

  true_by : (c : Content) → c.same ≡ same → (l : Literal) → IsGround l.atom → is_known s l.atom ≡ true → is_true s.trail.entries (lit_in s.held.atoms l) ≡ true → literal_by c l ≡ true
  true_by c e l g known t = literal_so l.positive l.atom g (true_read l (ground_size l.atom g) known t) c e

-- each added instance has a literal that is true by the test
module _ (p : Problem) (s : State) (k : Known) (is : IsKnown s k) (lawful : IsLawful p s) (held : IsWellHeld p s) (added : AddedStand p s) (bounded : s.free ≡ false) (alone : HasLastAlone s k) where
  instance_true : (i : ℕ × List ℕ) (clause : FirstOrderClause) → Has s.added i → slice_get p.clauses i.0 ≡ Some clause → IsTrueBy (content_at p s k) clause.lits i.1
  instance_true i clause has there =
      let es = s.trail.entries in
      let a = added i.0 i.1 has in
      let same : a.clause ≡ clause = cc (sym a.there ∙ there) in
      let ls = first_places [] a.literals in
      let known : (l : Literal) → Has a.literals l → is_known s l.atom ≡ true = λ l q. all_in (λ (x : Literal). is_known s x.atom) ls l a.stands.known ((placed_same a.literals l).1 q) in
      let satisfied = all_satisfied p s lawful held (quiet_at es 0 s.clauses alone.conflicts) (none_left s bounded alone.decisions).2 in
      let w = any_in (is_true es) (map (lit_in s.held.atoms) ls) (all_in (is_satisfied es) s.clauses (map (lit_in s.held.atoms) ls) satisfied a.stands.has) in
      let m = mapped_has (lit_in s.held.atoms) ls w.0 w.1 in
      let here = (placed_same a.literals m.lit).0 m.has in
      let on : is_true es (lit_in s.held.atoms m.lit) ≡ true = ap (is_true es) m.is ∙ w.2 in
      let c = content_at p s k in
      let so = true_by s k is alone.takes (no_clash s k alone.lemmas) c refl m.lit (literals_ground s.held.terms i.1 a.clause.lits a.literals a.grounded m.lit here) (known m.lit here) on in
      subst (λ (x : FirstOrderClause). IsTrueBy c x.lits i.1) same (record {
        literals = a.literals;
        grounded = a.grounded;
        atoms = in_all (λ (l : Literal). is_atom p.sig s.held.terms l.atom) a.literals (λ l q. subst (λ (sig : Sig). is_atom sig s.held.terms l.atom ≡ true) held.sig (atom_step s.held.sig s.held.terms [] s.held.atoms l.atom held.held.atoms_good (known_has s l.atom (known l q))));
        some = in_any (literal_by c) a.literals m.lit here so;
      })

pub instances_hold : InstancesHold
instances_hold p b events s k search h is bounded alone =
    let sorted = searchable_are_sorted p search in
    let g = contents_are_grounded p b events s k search h is in
    let truths = added_are_true p s.held.terms k.congruence.same s.added (record { grounded = g; named = search.named; sorted = search.sorted })
    (instance_true p s k is (reached_good p b events s h).lawful (runs_stay_held p b events s sorted h) (instances_stand p b events s sorted h) bounded alone) in
    record { truths = truths; tables = (tables_read_alike (content_at p s k) p.clauses g search.named search.sorted).added s.added truths }

pub instance_is_met : InstanceIsMet
instance_is_met p b events s k i env search h is offered room =
    let f = instance_fails p s k i env offered in
    let alone = last_stands_alone p s k (Offer.Instance i env) tt offered in
    let truths = (instances_hold p b events s k search h is f.bounded alone).truths in (
      with_instance i f.clause env s,
      record {
        bounded = f.bounded;
        room = room;
        clause = f.clause;
        there = f.there;
        elements = f.elements;
        within = f.within;
        named = f.named;
        false_there = f.false_there;
        new = λ q. failing_new (candidate_reading (content_at p s k)) (representatives (content_at p s k)) p.clauses s.added truths (i, env) (instance_ready i env p s k offered).1 q;
        after = refl;
      },
    )
