-- Each event whose row is met and which decides an atom over the terms leaves terms and atoms well held.
use Rattle.std.proofs.Common.{◌≡◌, ℕ, ◌+◌, ◌&&◌, ◌==◌, Bool, true, false, cond, nat_le, nat_lt, List, [], ◌∷◌, ◌++◌, length, map, Some, None, inl, inr, refl, sym, ap, subst, ◌∙◌, arith}
use Rattle.std.specs.Prelude.{Option, slice_get}
use Rattle.std.specs.List.{flat_map, list_all, range_with_len}
use Rattle.std.proofs.lemmas.Bool.{and_from, and_parts, eqb-true, false≢true, le-leb, leb-false, lt-ltb}
use Rattle.fm_base.specs.Resolution.{Has}
use Rattle.fm_base.specs.declared.ids.Lit.{Lit}
use Rattle.fm_base.specs.declared.ids.SortId.{SortId}
use Rattle.fm_base.specs.declared.signature.Sig.{Sig}
use Rattle.fm_base.specs.declared.signature.Ty.{Ty}
use Rattle.fm_base.proofs.Resolution.{mapped_has}
use Rattle.fm_bank.specs.Instances.{equality, is_substitution}
use Rattle.fm_bank.specs.Interning.{Held, IsFront, IsHeld, are_of_one_sort, first_places, is_atom, literals_grown, with_atoms}
use Rattle.fm_bank.specs.Sorted.{are_sorted_literals, is_sorted_clause}
use Rattle.fm_bank.specs.Terms.{Term, are_terms, is_type, type_of}
use Rattle.fm_bank.specs.declared.atom.Atom.{Atom}
use Rattle.fm_bank.specs.declared.literal.Literal.{Literal}
use Rattle.fm_bank.proofs.Growing.{literals_fronts}
use Rattle.fm_bank.proofs.Instancing.{literals_put}
use Rattle.fm_bank.proofs.Sorts.{atoms_kept, good_with_atoms}
use Rattle.fm_rounds.proofs.Members.{in_flat, in_range}
use Rattle.fm_guide.specs.declared.event.Word.{Word}
use Rattle.fm_sat.specs.Learning.{Steps}
use Rattle.fm_steps.specs.Content.{is_size, is_term_of_sort}
use Rattle.fm_steps.specs.Lemmas.{is_known}
use Rattle.fm_steps.specs.Lines.{DecidesAnAtom, IsPickOfSort, IsSorted, IsWellHeld, StepsStayHeld}
use Rattle.fm_steps.specs.Menu.{both_ways, bounded_decisions, clause_atoms, decisions_of, free_decision, free_decisions, is_wanted, menu_of, or_else, pair_offers, size_decision, size_decisions, split_decisions, split_offers, splits_of}
use Rattle.fm_steps.specs.Picks.{Known, Settles, clique_literals, pair_literals, pick_literals}
use Rattle.fm_steps.specs.Rows.{Offer, Row, after_learning, content_at}
use Rattle.fm_steps.specs.Runs.{Move, carried}
use Rattle.fm_steps.specs.Sizes.{card, is_unvalued, least_open, lit}
use Rattle.fm_steps.specs.State.{Budget, Clause, Pick, Problem, State, know_all}
use Rattle.fm_steps.proofs.Due.{all_in, atom_step, in_all, known_has}
use Rattle.fm_steps.proofs.Lists.{Has-append, Has-get}
use Rattle.fm_steps.proofs.Menus.{at_five}
use Rattle.fm_steps.proofs.Numbers.{with_all_known}
use Rattle.fm_steps.proofs.Tested.{picks_sorts}
use Rattle.fm_steps.proofs.Written.{has_place, named_typed, placed_same}

-- an equality of two terms of one sort
one_sort : (x y : Option Ty) (s : SortId) → is_type x (Ty.Of s) ≡ true → is_type y (Ty.Of s) ≡ true → are_of_one_sort x y ≡ true
one_sort None y s a b = absurd (false≢true a)
one_sort (Some Ty.Bool) y s a b = absurd (false≢true a)
one_sort (Some (Ty.Of r)) y s a b = let same : r.0 ≡ s.0 = eqb-true r.0 s.0 a in subst (λ (n : ℕ). is_type y (Ty.Of (record { 0 = n })) ≡ true) (sym same) b

abbrev fits : Held → Atom → Type 0
fits held a = is_atom held.sig held.terms a ≡ true

equal_by : (held : Held) (m n u : ℕ) (b : Bool) → nat_le m n ≡ b → is_term_of_sort held u m ≡ true → is_term_of_sort held u n ≡ true → fits held (cond b (Atom.Equal (record { 0 = m }) (record { 0 = n })) (Atom.Equal (record { 0 = n }) (record { 0 = m })))
equal_by held m n u true e a b = and_from (nat_le m n) _ e (one_sort (type_of held.sig held.terms m) (type_of held.sig held.terms n) (record { 0 = u }) a b)
equal_by held m n u false e a b = and_from (nat_le n m) _ (le-leb n m (let lt = leb-false m n e in omega (arith, lt))) (one_sort (type_of held.sig held.terms n) (type_of held.sig held.terms m) (record { 0 = u }) b a)

equal_fits : (held : Held) (m n u : ℕ) → is_term_of_sort held u m ≡ true → is_term_of_sort held u n ≡ true → fits held (equality m n)
equal_fits held m n u a b = equal_by held m n u (nat_le m n) refl a b

pairs_fit : (held : Held) (u : ℕ) (ts : List ℕ) → ((n : ℕ) → Has ts n → is_term_of_sort held u n ≡ true) → (l : Literal) → Has (pair_literals ts) l → fits held l.atom
pairs_fit held u [] h l q = absurd q
pairs_fit held u (t ∷ ts) h l q =
    elim (Has-append (map (λ b. lit true (equality t b)) ts) (pair_literals ts) l q) [
      | inl p ↦ (let m = mapped_has (λ (b : ℕ). lit true (equality t b)) ts l p in
          subst (λ (k : Literal). fits held k.atom) m.is (equal_fits held t m.lit u (h t (inl refl)) (h m.lit (inr m.has))))
      | inr p ↦ pairs_fit held u ts (λ n r. h n (inr r)) l p
    ]

clique_fits : (held : Held) (u : ℕ) (o : Option (ℕ × ℕ)) (ts : List ℕ) → ((n : ℕ) → Has ts n → is_term_of_sort held u n ≡ true) → (l : Literal) → Has (clique_literals o ts) l → fits held l.atom
clique_fits held u None ts h l q = pairs_fit held u ts h l q
clique_fits held u (Some p) ts h l q = absurd q

pick_fits : (held : Held) (u : ℕ) (p : Option Pick) → ((pick : Pick) → p ≡ Some pick → IsPickOfSort held u pick) → (l : Literal) → Has (pick_literals p) l → fits held l.atom
pick_fits held u None h l q = absurd q
pick_fits held u (Some pick) h l q = clique_fits held u pick.pair pick.terms (λ n r. all_in (is_term_of_sort held u) pick.terms n (h pick refl).sorts r) l q

pub picks_fit : (held : Held) (ps : List (Option Pick)) → ((u : ℕ) (pick : Pick) → slice_get ps u ≡ Some (Some pick) → IsPickOfSort held u pick) → list_all (λ (l : Literal). is_atom held.sig held.terms l.atom) (flat_map pick_literals ps) ≡ true
picks_fit held ps h =
    in_all (λ (l : Literal). is_atom held.sig held.terms l.atom) (flat_map pick_literals ps) (λ l q.
    let p = in_flat pick_literals l ps q in
    let at = has_place ps p.0 p.1 in
    pick_fits held at.0 p.0 (λ pick e. h at.0 pick (at.1 ∙ ap Some e)) l p.2)

grows_good : (held : Held) (ls : List Literal) → IsHeld held.sig held.terms held.atoms → list_all (λ (l : Literal). is_atom held.sig held.terms l.atom) ls ≡ true → IsHeld held.sig held.terms (with_atoms held.atoms ls)
grows_good held ls h e = record { terms_good = h.terms_good; atoms_good = good_with_atoms held.sig held.terms held.atoms ls h.atoms_good e }

-- what a state holds, without its tests
pub record IsOver (p : Problem) (s : State) : Type 0 where
  pub sig : s.held.sig ≡ p.sig
  pub held : IsHeld s.held.sig s.held.terms s.held.atoms

pub over_more : (p : Problem) (s : State) (ls : List Literal) → IsOver p s → list_all (λ (l : Literal). is_atom s.held.sig s.held.terms l.atom) ls ≡ true → IsOver p (know_all ls s)
over_more p s ls h e = record { sig = h.sig; held = grows_good s.held ls h.held e }

over_same : (p : Problem) (s t : State) → t.held ≡ s.held → IsOver p s → IsOver p t
over_same p s t e h = record { sig = ap (λ (x : Held). x.sig) e ∙ h.sig; held = subst (λ (x : Held). IsHeld x.sig x.terms x.atoms) (sym e) h.held }

one_fits : (held : Held) (l : Literal) → fits held l.atom → list_all (λ (k : Literal). is_atom held.sig held.terms k.atom) (l ∷ []) ≡ true
one_fits held l e = and_from (is_atom held.sig held.terms l.atom) true e refl

known_over : (p : Problem) (s : State) (ls : List Literal) → list_all (λ (l : Literal). is_known s l.atom) ls ≡ true → IsOver p s → IsOver p (know_all ls s)
known_over p s ls e h = subst (λ (as' : List Atom). IsOver p (record s { held = record s.held { atoms = as' } })) (sym (with_all_known s.held.atoms ls e)) h

over_instance : (p : Problem) (sig : Sig) (s : State) (ls : List Literal) (terms : List Term) → sig ≡ p.sig → s.held.sig ≡ sig → IsHeld sig s.held.terms s.held.atoms → IsFront s.held.terms terms → are_terms sig terms ≡ true → list_all (λ (l : Literal). is_atom sig terms l.atom) ls ≡ true → IsHeld sig terms (with_atoms s.held.atoms ls)
over_instance p sig s ls terms e f h front good fit = record { terms_good = good; atoms_good = good_with_atoms sig terms s.held.atoms ls (atoms_kept sig s.held.terms terms [] s.held.atoms front h.atoms_good) fit }

learnt : (p : Problem) (n : ℕ) (lits : Clause) (l : Lit) (level : ℕ) (steps : Steps) (s : State) → IsOver p s → IsOver p (after_learning n steps lits l level s)
learnt p n lits l level [] s h = record { sig = h.sig; held = h.held }
learnt p n lits l level (step ∷ steps) s h = record { sig = h.sig; held = h.held }

pub row_over : (p : Problem) (b : Budget) (s : State) (k : Known) (o : Offer) (t : State) → IsSorted p → IsOver p s → DecidesAnAtom s o → Row p b s k o t → IsOver p t
row_over p b s k (Offer.Learn n) t sorted h d r = subst (IsOver p) (sym r.after) (learnt p n r.lits r.lit r.level r.steps s h)
row_over p b s k (Offer.Unit' n) t sorted h d r = subst (IsOver p) (sym r.after) (record { sig = h.sig; held = h.held })
row_over p b s k (Offer.Take e) t sorted h d r = subst (IsOver p) (sym r.after) (record { sig = h.sig; held = h.held })
row_over p b s k (Offer.Lemma e q) t sorted h d r = let g = known_over p s r.lits r.known h in subst (IsOver p) (sym r.after) (record { sig = g.sig; held = g.held })
row_over p b s k (Offer.Imply e q) t sorted h d r = let g = known_over p s r.lits r.known h in subst (IsOver p) (sym r.after) (record { sig = g.sig; held = g.held })
row_over p b s k Offer.Turn t sorted h d r = subst (IsOver p) (sym r.after) (record { sig = h.sig; held = h.held })
row_over p b s k (Offer.Decide l) t sorted h d r = let g = over_more p s (l ∷ []) h (one_fits s.held l d) in subst (IsOver p) (sym r.after) (record { sig = g.sig; held = g.held })
row_over p b s k (Offer.Split a c) t sorted h d r = let g = over_more p s (lit true (equality a c) ∷ []) h (one_fits s.held (lit true (equality a c)) (equal_fits s.held a c r.sort_of r.first r.second)) in subst (IsOver p) (sym r.after) (record { sig = g.sig; held = g.held })
row_over p b s k (Offer.Instance i env) t sorted h d r =
    let terms = s.held.terms in
    let g = literals_grown r.clause.lits env terms in
    let is = all_in (is_sorted_clause p.sig) p.clauses r.clause sorted.clauses (Has-get p.clauses i r.clause r.there) in
    let parts = and_parts (list_all (λ (v : SortId). nat_lt v.0 p.sig.sorts) r.clause.vars) (are_sorted_literals p.sig r.clause.vars r.clause.lits) is in
    let typed : is_substitution p.sig terms r.clause.vars env ≡ true = subst (λ ns. is_substitution p.sig terms r.clause.vars ns ≡ true) r.named (named_typed (content_at p s k) r.clause.vars r.elements parts.0 r.within) in
    let here : IsHeld p.sig terms s.held.atoms = subst (λ (sig : Sig). IsHeld sig terms s.held.atoms) h.sig h.held in
    let put = literals_put p.sig r.clause.vars env r.clause.lits terms here.terms_good typed parts.1 in
    let ls = first_places [] g.1 in
    let fit = in_all (λ (l : Literal). is_atom p.sig g.0 l.atom) ls (λ l q. all_in (λ (x : Literal). is_atom p.sig g.0 x.atom) g.1 l put.fit ((placed_same g.1 l).0 q)) in
    let all : IsHeld p.sig g.0 (with_atoms s.held.atoms ls) = over_instance p p.sig s ls g.0 refl h.sig here (literals_fronts r.clause.lits env terms) put.good fit in
    subst (IsOver p) (sym r.after) (record { sig = h.sig; held = subst (λ (sig : Sig). IsHeld sig g.0 (with_atoms s.held.atoms ls)) (sym h.sig) all })
row_over p b s k Offer.Raise t sorted h d r = let g = over_more p s (lit true (Atom.Bound (s.bound + 1)) ∷ []) h (one_fits s.held (lit true (Atom.Bound (s.bound + 1))) refl) in subst (IsOver p) (sym r.after) (record { sig = g.sig; held = g.held })
row_over p b s k (Offer.Answer a) t sorted h d r = subst (IsOver p) (sym r.1) h

pub settled_held : (p : Problem) (mid t : State) → IsOver p mid → Settles mid t → IsWellHeld p t
settled_held p mid t h m =
    let sorts = picks_sorts mid m.known.regions m.picks m.are_picks in
    let g = over_more p mid (flat_map pick_literals m.picks) h (picks_fit mid.held m.picks sorts) in
    subst (IsWellHeld p) (sym m.after) (record { sig = g.sig; held = g.held; picks = λ u pick e. let q = sorts u pick e in record { some = q.some; sorts = q.sorts } })

pub move_held : (p : Problem) (b : Budget) (s : State) (k : Known) (o : Offer) (t : State) → IsSorted p → IsWellHeld p s → DecidesAnAtom s o → Move p b s k o t → IsWellHeld p t
move_held p b s k o t sorted w d m = settled_held p m.mid t (row_over p b s k o m.mid sorted (record { sig = w.sig; held = w.held }) d m.row) m.settles

-- what the menu offers to decide
module _ (p : Problem) (s : State) (w : IsWellHeld p s) where
  abbrev AllFit : List Offer → Type 0
  AllFit xs = (o : Offer) → Has xs o → DecidesAnAtom s o

  none : AllFit []
  none o h = absurd h

  one : (x : Offer) → DecidesAnAtom s x → AllFit (x ∷ [])
  one x q o (inl e) = subst (DecidesAnAtom s) e q
  one x q o (inr h) = absurd h

  joined : (xs ys : List Offer) → AllFit xs → AllFit ys → AllFit (xs ++ ys)
  joined xs ys a b o h = elim (Has-append xs ys o h) [ inl q ↦ a o q | inr q ↦ b o q ]

  when : (c : Bool) (xs ys : List Offer) → (c ≡ true → AllFit xs) → (c ≡ false → AllFit ys) → AllFit (cond c xs ys)
  when true xs ys a b = a refl
  when false xs ys a b = b refl

  mapped : {X : Type 0} (f : X → List Offer) (xs : List X) → ((x : X) → Has xs x → AllFit (f x)) → AllFit (flat_map f xs)
  mapped f [] h = none
  mapped f (x ∷ xs) h = joined (f x) (flat_map f xs) (h x (inl refl)) (mapped f xs (λ y q. h y (inr q)))

  first_of : (xs ys : List Offer) → AllFit xs → AllFit ys → AllFit (or_else xs ys)
  first_of [] ys a b = b
  first_of (x ∷ xs) ys a b = a

  two : (a : Atom) (v u : Bool) → fits s.held a → AllFit (Offer.Decide (lit v a) ∷ (Offer.Decide (lit u a) ∷ []))
  two a v u f = joined (Offer.Decide (lit v a) ∷ []) (Offer.Decide (lit u a) ∷ []) (one (Offer.Decide (lit v a)) f) (one (Offer.Decide (lit u a)) f)

  there : (a : Atom) → Has s.held.atoms a → fits s.held a
  there a h = atom_step s.held.sig s.held.terms [] s.held.atoms a w.held.atoms_good h

  both : (n : ℕ) (o : Option Atom) → slice_get s.held.atoms n ≡ o → AllFit (both_ways s n o)
  both n None e = none
  both n (Some a) e = when (is_unvalued s a && is_wanted s n) _ [] (λ u. two a false true (there a (Has-get s.held.atoms n a e))) (λ u. none)

  atoms : AllFit (clause_atoms s)
  atoms = mapped (λ n. both_ways s n (slice_get s.held.atoms n)) (range_with_len 0 (length s.held.atoms)) (λ n q. both n (slice_get s.held.atoms n) refl)

  sizes : AllFit (size_decisions s)
  sizes = mapped (size_decision s) (range_with_len 0 s.held.sig.sorts) (λ u q. when (is_unvalued s (card u (least_open s u))) _ [] (λ e. one (Offer.Decide (lit true (card u (least_open s u)))) (let lt = (in_range u 0 s.held.sig.sorts q).1 in lt-ltb u s.held.sig.sorts (omega (arith, lt)))) (λ e. none))

  frees : AllFit (free_decisions s)
  frees = mapped (free_decision s) s.held.atoms (λ a q. when (is_size a && is_unvalued s a) _ [] (λ e. one (Offer.Decide (lit false a)) (there a q)) (λ e. none))

  decisions : AllFit (decisions_of s)
  decisions = when s.free (or_else (free_decisions s) (clause_atoms s)) (bounded_decisions s)
      (λ e. first_of (free_decisions s) (clause_atoms s) frees atoms)
      (λ e. when (is_unvalued s (Atom.Bound s.bound)) (Offer.Decide (lit true (Atom.Bound s.bound)) ∷ []) (or_else (size_decisions s) (clause_atoms s)) (λ u. one (Offer.Decide (lit true (Atom.Bound s.bound))) refl) (λ u. first_of (size_decisions s) (clause_atoms s) sizes atoms))

  pair : (o : Option (ℕ × ℕ)) → AllFit (pair_offers s o)
  pair None = none
  pair (Some q) = when (is_known s (equality q.0 q.1)) (split_decisions s (equality q.0 q.1)) (Offer.Split q.0 q.1 ∷ [])
      (λ e. when (is_unvalued s (equality q.0 q.1)) _ [] (λ u. two (equality q.0 q.1) true false (there (equality q.0 q.1) (known_has s (equality q.0 q.1) e))) (λ u. none))
      (λ e. one (Offer.Split q.0 q.1) tt)

  split : (o : Option Pick) → AllFit (split_offers s o)
  split None = none
  split (Some pick) = pair pick.pair

  splits : AllFit (splits_of s)
  splits = when s.free [] (flat_map (split_offers s) s.picks) (λ e. none) (λ f. mapped (split_offers s) s.picks (λ o q. split o))

  pub decided : (k : Known) (l : Literal) → Has (menu_of p s k) (Offer.Decide l) → DecidesAnAtom s (Offer.Decide l)
  decided k l h = elim (at_five p s k (Offer.Decide l) (omega arith) (omega arith) h) [ inl q ↦ decisions (Offer.Decide l) q | inr q ↦ splits (Offer.Decide l) q ]

  carried_one : (b : Bool) (x y : Offer) → DecidesAnAtom s x → DecidesAnAtom s y → DecidesAnAtom s (cond b x y)
  carried_one true x y a c = a
  carried_one false x y a c = c

  pub offered_atoms : (b : Budget) (k : Known) (o : Offer) → Has (menu_of p s k) o → DecidesAnAtom s (carried b s o)
  offered_atoms b k (Offer.Decide l) h = carried_one (s.decisions == b.decisions) (Offer.Answer Word.Unknown) (Offer.Decide l) tt (decided k l h)
  offered_atoms b k (Offer.Instance i env) h = carried_one (s.instances == b.instances) (Offer.Answer Word.Unknown) (Offer.Instance i env) tt tt
  offered_atoms b k (Offer.Learn n) h = tt
  offered_atoms b k (Offer.Unit' n) h = tt
  offered_atoms b k (Offer.Take r) h = tt
  offered_atoms b k (Offer.Lemma r d) h = tt
  offered_atoms b k (Offer.Imply r d) h = tt
  offered_atoms b k Offer.Turn h = tt
  offered_atoms b k (Offer.Split a c) h = tt
  offered_atoms b k Offer.Raise h = tt
  offered_atoms b k (Offer.Answer x) h = tt

pub steps_stay_held : StepsStayHeld
steps_stay_held p b s e t sorted w step =
    let d = offered_atoms p s w b step.known step.offer (Has-get (menu_of p s step.known) step.place step.offer step.there) in
    move_held p b s step.known (carried b s step.offer) t sorted w d step.move
