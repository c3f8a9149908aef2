-- The known size atoms stand in a row, up to the bound.
use Rattle.std.proofs.Common.{◌≡◌, ℕ, zero, suc, ◌+◌, ◌<◌, ◌≤◌, ◌⊎◌, ◌↔◌, ◌==◌, ◌&&◌, max, Bool, true, false, not, cond, nat_lt, List, [], ◌∷◌, ◌++◌, get_or, length, map, take, Some, None, inl, inr, refl, sym, ap, subst, ◌∙◌, arith}
use Rattle.std.specs.Prelude.{Option, option_and_then, slice_get}
use Rattle.std.specs.List.{flat_map, list_any, position_or_len, range_with_len}
use Rattle.std.proofs.lemmas.Bool.{and_from, cases_eq, cases_lt, eq-eqb, eqb-true, false≢true, ltb-false, true≢false}
use Rattle.std.proofs.lemmas.List.FromFn.{length-range_with_len}
use Rattle.std.proofs.lemmas.List.Sums.{fails_before_first}
use Rattle.fm_base.specs.Resolution.{Has}
use Rattle.fm_base.specs.declared.ids.Lit.{Lit}
use Rattle.fm_base.specs.declared.ids.Reader.{Reader}
use Rattle.fm_base.specs.declared.ids.SortId.{SortId}
use Rattle.fm_base.specs.declared.signature.Sig.{Sig}
use Rattle.fm_base.proofs.Resolution.{mapped_has}
use Rattle.fm_bank.specs.Instances.{equality}
use Rattle.fm_bank.specs.Interning.{IsFront, find_atom, is_same_atom, with_atom, with_atoms}
use Rattle.fm_bank.specs.declared.atom.Atom.{Atom}
use Rattle.fm_bank.specs.declared.clause.Clause.{Clause as FirstOrderClause}
use Rattle.fm_bank.specs.declared.literal.Literal.{Literal}
use Rattle.fm_bank.proofs.Atoms.{is_same_atom-refl, same_atom}
use Rattle.fm_bank.proofs.Growing.{atoms_fronts}
use Rattle.fm_guide.specs.declared.event.Event.{Event}
use Rattle.fm_guide.specs.declared.event.Word.{Word}
use Rattle.fm_rounds.proofs.Members.{any_in, flat_in, in_any, in_flat, in_range}
use Rattle.fm_sat.specs.Learning.{Steps}
use Rattle.fm_bank.proofs.Places.{place_cons}
use Rattle.fm_trail.specs.Trail.{is_value, value_of}
use Rattle.fm_trail.proofs.Going.{level_most}
use Rattle.fm_trail.proofs.Literals.{false_by}
use Rattle.fm_steps.specs.Bounds.{AreNotSmaller, BoundIsDecided, IsInRow, SizesAreInRow, StartStays, not_empty, not_fewer}
use Rattle.fm_steps.specs.Content.{is_size}
use Rattle.fm_steps.specs.Facts.{TrailIsExplained}
use Rattle.fm_steps.specs.Lemmas.{Due, bounds_from, is_known, is_some_number, is_sum_due, sum_literals, total_above, with_bound}
use Rattle.fm_steps.specs.Menu.{both_ways, bounded_decisions, by_open, clause_atoms, decisions_of, first_lemmas, free_decision, free_decisions, is_wanted, lemmas_of, menu_of, offer_for, open_literals, or_else, pair_offers, size_decision, size_decisions, split_decisions, split_offers, splits_of, sum_offers_at, turns_of}
use Rattle.fm_steps.specs.Picks.{Known, Settles, clique_literals, pair_literals, pick_literals}
use Rattle.fm_steps.specs.Rows.{Offer, Row, after_learning, instance_literals}
use Rattle.fm_steps.specs.Runs.{IsReached, IsStart, Run, Step, carried}
use Rattle.fm_steps.specs.Sizes.{card, greatest, greatest_false, greatest_with, holds, is_refuted, is_refuted_by, is_unvalued, least_open, lit, number_in, numbers_with, sort}
use Rattle.fm_steps.specs.Start.{empty_state, first_state, with_elements, with_first_sum, with_ground_clauses}
use Rattle.fm_steps.specs.State.{Budget, Clause, Pick, Problem, State, value_by, with_literals}
use Rattle.fm_steps.proofs.Bounded.{IsBounded, begun_bounded, bound_open, refuted_false, step_bounded, turn_none}
use Rattle.fm_steps.proofs.Due.{known_has}
use Rattle.fm_steps.proofs.Guarded.{equality_ground, instance_ground}
use Rattle.fm_steps.proofs.Lists.{Has-append, Has-end, Has-get, append_none, only_one}
use Rattle.fm_steps.proofs.Menus.{at_five, quiet_before}
use Rattle.fm_steps.proofs.Starts.{start_bound, start_sig}
use Rattle.fm_steps.proofs.Staying.{start_stays}
use Rattle.fm_steps.proofs.Numbers.{all_known, any_known, find_kept, find_some, known_any, known_one, with_all_known}

-- which atoms are known once more are
abbrev Knows : List Atom → Atom → Type 0
Knows atoms a = is_some_number (find_atom atoms a) ≡ true

one_from : (b : Bool) (atoms : List Atom) (a x : Atom) → Has (cond b atoms (atoms ++ a ∷ [])) x → Has atoms x ⊎ (a ≡ x)
one_from true atoms a x h = inl h
one_from false atoms a x h = elim (Has-append atoms (a ∷ []) x h) [ inl q ↦ inl q | inr q ↦ inr (only_one a x q) ]

atom_from : (ls : List Literal) (atoms : List Atom) (x : Atom) → Has (with_atoms atoms ls) x → Has atoms x ⊎ ((l : Literal) × Has ls l × (l.atom ≡ x))
atom_from [] atoms x h = inl h
atom_from (l ∷ ls) atoms x h =
    elim (atom_from ls (with_atom atoms l.atom) x h) [
      | inl q ↦ elim (one_from (list_any (is_same_atom l.atom) atoms) atoms l.atom x q) [ inl old ↦ inl old | inr new ↦ inr (l, inl refl, new) ]
      | inr q ↦ inr (q.0, inr q.1, q.2)
    ]

pub has_known : (atoms : List Atom) (a : Atom) → Has atoms a → Knows atoms a
has_known atoms a h = any_known atoms a (in_any (is_same_atom a) atoms a h (is_same_atom-refl a))

knows_has : (atoms : List Atom) (a : Atom) → Knows atoms a → Has atoms a
knows_has atoms a k =
    let w = any_in (is_same_atom a) atoms (known_any atoms a k) in
    subst (Has atoms) (sym (same_atom a w.0 w.2)) w.1

pub known_from : (ls : List Literal) (atoms : List Atom) (a : Atom) → Knows (with_atoms atoms ls) a → Knows atoms a ⊎ ((l : Literal) × Has ls l × (l.atom ≡ a))
known_from ls atoms a k = elim (atom_from ls atoms a (knows_has (with_atoms atoms ls) a k)) [ inl q ↦ inl (has_known atoms a q) | inr q ↦ inr q ]

known_on : (atoms more : List Atom) (a : Atom) → IsFront atoms more → Knows atoms a → Knows more a
known_on atoms more a f k =
    let w = find_some atoms a k in
    subst (λ (as' : List Atom). Knows as' a) f.1 (ap is_some_number (find_kept atoms f.0 a w.0 w.1))

known_then : (ls : List Literal) (atoms : List Atom) (a : Atom) → Knows atoms a → Knows (with_atoms atoms ls) a
known_then ls atoms a k = known_on atoms (with_atoms atoms ls) a (atoms_fronts ls atoms) k

-- the same size atoms are known
abbrev SameSizes : List Atom → List Atom → Type 0
SameSizes atoms more = (a : Atom) → is_size a ≡ true → Knows more a ↔ Knows atoms a

same_sizes : (atoms : List Atom) (ls : List Literal) → ((l : Literal) → Has ls l → is_size l.atom ≡ false) → SameSizes atoms (with_atoms atoms ls)
same_sizes atoms ls none a size = (
  λ k. elim (known_from ls atoms a k) [ inl q ↦ q | inr q ↦ absurd (false≢true (sym (none q.0 q.1) ∙ (ap is_size q.2 ∙ size))) ],
  λ k. known_then ls atoms a k,
)

sizes_refl : (atoms more : List Atom) → more ≡ atoms → SameSizes atoms more
sizes_refl atoms more e = subst (SameSizes atoms) (sym e) (λ a size. (λ k. k, λ k. k))

row_same : (s t : State) (u : ℕ) → t.bound ≡ s.bound → SameSizes s.held.atoms t.held.atoms → IsInRow s u → IsInRow t u
row_same s t u e same h = record {
  top = h.top;
  low = (let l = h.low in omega (arith, l, e));
  known = λ k. (λ q. (h.known k).0 ((same (card u k) refl).0 q), λ le. (same (card u k) refl).1 ((h.known k).1 le));
}

pub all_same : (p : Problem) (s t : State) → t.bound ≡ s.bound → SameSizes s.held.atoms t.held.atoms → SizesAreInRow p s → SizesAreInRow p t
all_same p s t e same h = record {
  cards = λ u lt. row_same s t u e same (h.cards u lt);
  bounds = λ j. (
    λ q. let r = (h.bounds j).0 ((same (Atom.Bound j) refl).0 q) in let low = r.1 in (r.0, omega (arith, low, e)),
    λ r. let low = r.1 in (same (Atom.Bound j) refl).1 ((h.bounds j).1 (r.0, omega (arith, low, e))),
  );
  least = (let l = h.least in omega (arith, l, e));
}

same_at : {u : State} (p : Problem) (s t : State) → t ≡ u → u.bound ≡ s.bound → SameSizes s.held.atoms u.held.atoms → SizesAreInRow p s → SizesAreInRow p t
same_at {u} p s t e b same h = subst (SizesAreInRow p) (sym e) (all_same p s u b same h)

-- a decision is of a known atom, or of the next bound of a sort
pub record IsNext (p : Problem) (s : State) (a : Atom) : Type 0 where
  pub sort_of : ℕ
  pub size : ℕ
  pub is : a ≡ card sort_of size
  pub before : (j : ℕ) → j < size → is_known s (card sort_of j) ≡ true
  pub low : size ≤ s.bound

abbrev pub DecidesInRow : Problem → State → Offer → Type 0
DecidesInRow p s (Offer.Decide l) = (is_known s l.atom ≡ true) ⊎ IsNext p s l.atom
DecidesInRow p s o = Unit {0}

card_parts : (u k v j : ℕ) → card u k ≡ card v j → (u ≡ v) × (k ≡ j)
card_parts u k v j e = let q : sort u ≡ sort v = cc e in (ap (λ (s : SortId). s.0) q, cc e)

pub no_bound : (u k j : ℕ) → card u k ≡ Atom.Bound j → ⊥
no_bound u k j e = absurd (cc e)

next_row : (s : State) (u k v : ℕ) (atoms : List Atom) (l : Literal) → atoms ≡ with_atoms s.held.atoms (l ∷ []) → l.atom ≡ card u k → ((j : ℕ) → j < k → is_known s (card u j) ≡ true) → k ≤ s.bound → IsInRow s v → (top : ℕ) × (top ≤ s.bound) × ((j : ℕ) → Knows atoms (card v j) ↔ (j ≤ top))
next_row s u k v atoms l e is before low h =
    let f : IsFront s.held.atoms atoms = subst (IsFront s.held.atoms) (sym e) (atoms_fronts (l ∷ []) s.held.atoms) in
    let from : (a : Atom) → Knows atoms a → Knows s.held.atoms a ⊎ (card u k ≡ a) = λ a q. elim (known_from (l ∷ []) s.held.atoms a (subst (λ (as' : List Atom). Knows as' a) e q)) [ inl old ↦ inl old | inr new ↦ inr (sym is ∙ (ap (λ (x : Literal). x.atom) (only_one l new.0 new.1) ∙ new.2)) ] in
    let here : Knows atoms (card u k) = subst (λ (as' : List Atom). Knows as' (card u k)) (sym e) (subst (Knows (with_atoms s.held.atoms (l ∷ []))) is (known_one (with_atoms s.held.atoms (l ∷ [])) (l ∷ []) l (inl refl) (all_known (l ∷ []) s.held.atoms))) in
    let top = h.top in
    let below = h.low in
    elim (cases_eq v u) [
      | inl same ↦ (
        max top k,
        omega (arith, below, low),
        λ j. (
          λ q. elim (from (card v j) q) [
            | inl old ↦ (let r = (h.known j).0 old in omega (arith, r))
            | inr new ↦ (let r = (card_parts u k v j new).1 in omega (arith, r))
          ],
          λ le. elim (cases_lt top j) [
            | inl above ↦ elim (cases_eq j k) [
              | inl last ↦ subst (λ n. Knows atoms (card n j)) (sym same) (subst (λ n. Knows atoms (card u n)) (sym last) here)
              | inr other ↦ subst (λ n. Knows atoms (card n j)) (sym same) (known_on s.held.atoms atoms (card u j) f (before j (omega (arith, le, above, other))))
            ]
            | inr within ↦ known_on s.held.atoms atoms (card v j) f ((h.known j).1 (omega (arith, within)))
          ],
        ),
      )
      | inr other ↦ (
        top,
        below,
        λ j. (
          λ q. elim (from (card v j) q) [
            | inl old ↦ (h.known j).0 old
            | inr new ↦ absurd (other (sym (card_parts u k v j new).0))
          ],
          λ le. known_on s.held.atoms atoms (card v j) f ((h.known j).1 le),
        ),
      )
    ]

next_all : (p : Problem) (s t : State) (l : Literal) → t.bound ≡ s.bound → t.held.atoms ≡ with_atoms s.held.atoms (l ∷ []) → IsNext p s l.atom → SizesAreInRow p s → SizesAreInRow p t
next_all p s t l b e n h =
    let f : IsFront s.held.atoms t.held.atoms = subst (IsFront s.held.atoms) (sym e) (atoms_fronts (l ∷ []) s.held.atoms) in
    record {
      cards = λ v lt. let r = next_row s n.sort_of n.size v t.held.atoms l e n.is n.before n.low (h.cards v lt) in let low = r.1 in record { top = r.0; low = omega (arith, low, b); known = r.2 };
      bounds = λ j. (
        λ q. elim (known_from (l ∷ []) s.held.atoms (Atom.Bound j) (subst (λ (as' : List Atom). Knows as' (Atom.Bound j)) e q)) [
          | inl old ↦ (let r = (h.bounds j).0 old in let low = r.1 in (r.0, omega (arith, low, b)))
          | inr new ↦ absurd (no_bound n.sort_of n.size j (sym n.is ∙ (ap (λ (x : Literal). x.atom) (only_one l new.0 new.1) ∙ new.2)))
        ],
        λ r. let low = r.1 in known_on s.held.atoms t.held.atoms (Atom.Bound j) f ((h.bounds j).1 (r.0, omega (arith, low, b))),
      );
      least = (let l' = h.least in omega (arith, l', b));
    }

-- the bound is raised
raised : (p : Problem) (s t : State) → t.bound ≡ s.bound + 1 → t.held.atoms ≡ with_atoms s.held.atoms (lit true (Atom.Bound (s.bound + 1)) ∷ []) → SizesAreInRow p s → SizesAreInRow p t
raised p s t b e h =
    let l : Literal = lit true (Atom.Bound (s.bound + 1)) in
    let f : IsFront s.held.atoms t.held.atoms = subst (IsFront s.held.atoms) (sym e) (atoms_fronts (l ∷ []) s.held.atoms) in
    let from : (a : Atom) → Knows t.held.atoms a → Knows s.held.atoms a ⊎ (Atom.Bound (s.bound + 1) ≡ a) = λ a q. elim (known_from (l ∷ []) s.held.atoms a (subst (λ (as' : List Atom). Knows as' a) e q)) [ inl old ↦ inl old | inr new ↦ inr (ap (λ (x : Literal). x.atom) (only_one l new.0 new.1) ∙ new.2) ] in
    let here : Knows t.held.atoms (Atom.Bound (s.bound + 1)) = subst (λ (as' : List Atom). Knows as' (Atom.Bound (s.bound + 1))) (sym e) (known_one (with_atoms s.held.atoms (l ∷ [])) (l ∷ []) l (inl refl) (all_known (l ∷ []) s.held.atoms)) in
    let least = h.least in
    record {
      cards = λ u lt. let r = h.cards u lt in let low = r.low in record {
        top = r.top;
        low = omega (arith, low, b);
        known = λ k. (
          λ q. elim (from (card u k) q) [ inl old ↦ (r.known k).0 old | inr new ↦ absurd (no_bound u k (s.bound + 1) (sym new)) ],
          λ le. known_on s.held.atoms t.held.atoms (card u k) f ((r.known k).1 le),
        );
      };
      bounds = λ j. (
        λ q. elim (from (Atom.Bound j) q) [
          | inl old ↦ (let r = (h.bounds j).0 old in let low = r.1 in (r.0, omega (arith, low, b)))
          | inr new ↦ (let same : s.bound + 1 ≡ j = cc new in (omega (arith, same, least), omega (arith, same, b)))
        ],
        λ r. let low = r.1 in elim (cases_eq j (s.bound + 1)) [
          | inl last ↦ subst (λ n. Knows t.held.atoms (Atom.Bound n)) (sym last) here
          | inr other ↦ known_on s.held.atoms t.held.atoms (Atom.Bound j) f ((h.bounds j).1 (r.0, omega (arith, low, b, other)))
        ],
      );
      least = omega (arith, least, b);
    }

learnt_row : (p : Problem) (n : ℕ) (lits : Clause) (l : Lit) (level : ℕ) (steps : Steps) (s : State) → SizesAreInRow p s → SizesAreInRow p (after_learning n steps lits l level s)
learnt_row p n lits l level [] s h = all_same p s (after_learning n [] lits l level s) refl (sizes_refl s.held.atoms s.held.atoms refl) h
learnt_row p n lits l level (step ∷ steps) s h = all_same p s (after_learning n (step ∷ steps) lits l level s) refl (sizes_refl s.held.atoms s.held.atoms refl) h

split_plain : (a c : ℕ) (l : Literal) → Has (lit true (equality a c) ∷ []) l → is_size l.atom ≡ false
split_plain a c l h = subst (λ (x : Literal). is_size x.atom ≡ false) (only_one (lit true (equality a c)) l h) (equality_ground a c)

pub row_in_row : (p : Problem) (b : Budget) (s : State) (k : Known) (o : Offer) (t : State) → DecidesInRow p s o → SizesAreInRow p s → Row p b s k o t → SizesAreInRow p t
row_in_row p b s k (Offer.Learn n) t d h r = subst (SizesAreInRow p) (sym r.after) (learnt_row p n r.lits r.lit r.level r.steps s h)
row_in_row p b s k (Offer.Unit' n) t d h r = same_at p s t r.after refl (sizes_refl s.held.atoms s.held.atoms refl) h
row_in_row p b s k (Offer.Take e) t d h r = same_at p s t r.after refl (sizes_refl s.held.atoms s.held.atoms refl) h
row_in_row p b s k (Offer.Lemma e q) t d h r = same_at p s t r.after refl (sizes_refl s.held.atoms (with_atoms s.held.atoms r.lits) (with_all_known s.held.atoms r.lits r.known)) h
row_in_row p b s k (Offer.Imply e q) t d h r = same_at p s t r.after refl (sizes_refl s.held.atoms (with_atoms s.held.atoms r.lits) (with_all_known s.held.atoms r.lits r.known)) h
row_in_row p b s k Offer.Turn t d h r = same_at p s t r.after refl (sizes_refl s.held.atoms s.held.atoms refl) h
row_in_row p b s k (Offer.Decide l) t (inl known) h r = same_at p s t r.after refl (sizes_refl s.held.atoms (with_atoms s.held.atoms (l ∷ [])) (with_all_known s.held.atoms (l ∷ []) (and_from (is_known s l.atom) true known refl))) h
row_in_row p b s k (Offer.Decide l) t (inr next) h r = next_all p s t l (ap (λ (u : State). u.bound) r.after) (ap (λ (u : State). u.held.atoms) r.after) next h
row_in_row p b s k (Offer.Split a c) t d h r = same_at p s t r.after refl (same_sizes s.held.atoms (lit true (equality a c) ∷ []) (split_plain a c)) h
row_in_row p b s k (Offer.Instance i env) t d h r = same_at p s t r.after refl (same_sizes s.held.atoms (instance_literals s.held r.clause env) (instance_ground s.held.terms r.clause.lits env)) h
row_in_row p b s k Offer.Raise t d h r = raised p s t (ap (λ (u : State). u.bound) r.after) (ap (λ (u : State). u.held.atoms) r.after) h
row_in_row p b s k (Offer.Answer w) t d h r = subst (SizesAreInRow p) (sym r.1) h

-- the equalities of cliques are no size atoms
pub pairs_plain : (ts : List ℕ) (l : Literal) → Has (pair_literals ts) l → is_size l.atom ≡ false
pairs_plain [] l h = absurd h
pairs_plain (t ∷ ts) l h =
    elim (Has-append (map (λ b. lit true (equality t b)) ts) (pair_literals ts) l h) [
      | inl q ↦ (let m = mapped_has (λ (b : ℕ). lit true (equality t b)) ts l q in subst (λ (x : Literal). is_size x.atom ≡ false) m.is (equality_ground t m.lit))
      | inr q ↦ pairs_plain ts l q
    ]

clique_plain : (o : Option (ℕ × ℕ)) (ts : List ℕ) (l : Literal) → Has (clique_literals o ts) l → is_size l.atom ≡ false
clique_plain None ts l h = pairs_plain ts l h
clique_plain (Some q) ts l h = absurd h

pick_plain : (o : Option Pick) (l : Literal) → Has (pick_literals o) l → is_size l.atom ≡ false
pick_plain None l h = absurd h
pick_plain (Some pick) l h = clique_plain pick.pair pick.terms l h

pub picks_plain : (ps : List (Option Pick)) (l : Literal) → Has (flat_map pick_literals ps) l → is_size l.atom ≡ false
picks_plain ps l h = let q = in_flat pick_literals l ps h in pick_plain q.0 l q.2

settled_in_row : (p : Problem) (mid t : State) → SizesAreInRow p mid → Settles mid t → SizesAreInRow p t
settled_in_row p mid t h m = same_at p mid t m.after refl (same_sizes mid.held.atoms (flat_map pick_literals m.picks) (picks_plain m.picks)) h

-- the start
abbrev IsBegun : ℕ → Atom → Type 0
IsBegun m a = ((u : ℕ) × (a ≡ card u 0)) ⊎ ((j : ℕ) × (m ≤ j + 1) × (j ≤ m) × (a ≡ Atom.Bound j))

abbrev AreBegun : ℕ → List Atom → Type 0
AreBegun m atoms = (a : Atom) → is_size a ≡ true → Knows atoms a → IsBegun m a

begun_more : (m : ℕ) (atoms : List Atom) (ls : List Literal) → AreBegun m atoms → ((l : Literal) → Has ls l → is_size l.atom ≡ true → IsBegun m l.atom) → AreBegun m (with_atoms atoms ls)
begun_more m atoms ls h new a size k =
    elim (known_from ls atoms a k) [
      | inl old ↦ h a size old
      | inr q ↦ subst (IsBegun m) q.2 (new q.0 q.1 (ap is_size q.2 ∙ size))
    ]

begun_by : (m : ℕ) (b : Bool) (s : State) (ls : List Literal) → ((l : Literal) → Has ls l → is_size l.atom ≡ false) → AreBegun m s.held.atoms → AreBegun m (cond b (with_literals ls s) s).held.atoms
begun_by m true s ls none h = begun_more m s.held.atoms ls h (λ l q size. absurd (false≢true (sym (none l q) ∙ size)))
begun_by m false s ls none h = h

begun_ground : (m : ℕ) (cs : List FirstOrderClause) (s : State) → AreBegun m s.held.atoms → AreBegun m (with_ground_clauses cs s).held.atoms
begun_ground m [] s h = h
begun_ground m (c ∷ cs) s h = begun_ground m cs _ (begun_by m (length c.vars == 0) s (instance_literals s.held c []) (instance_ground s.held.terms c.lits []) h)

begun_elements : (m : ℕ) (us : List ℕ) (s : State) → AreBegun m s.held.atoms → AreBegun m (with_elements us s).held.atoms
begun_elements m [] s h = h
begun_elements m (u ∷ us) s h = begun_elements m us (with_literals (not_empty u) s) (begun_more m s.held.atoms (not_empty u) h (λ l q size. inl (u, ap (λ (x : Literal). x.atom) (sym (only_one (lit false (card u 0)) l q)))))

begun_sum : (m n : ℕ) (s : State) → n ≡ m → AreBegun m s.held.atoms → AreBegun m (with_first_sum n s).held.atoms
begun_sum m zero s e h = h
begun_sum m (suc n) s e h =
    begun_more m s.held.atoms (not_fewer n) h (λ l q size. elim (Has-append (map (λ u. lit true (card u 0)) (range_with_len 0 (suc n))) (lit false (Atom.Bound n) ∷ []) l q) [
      | inl first ↦ (let w = mapped_has (λ (u : ℕ). lit true (card u 0)) (range_with_len 0 (suc n)) l first in inl (w.lit, ap (λ (x : Literal). x.atom) (sym w.is)))
      | inr last ↦ inr (n, omega (arith, e), omega (arith, e), ap (λ (x : Literal). x.atom) (sym (only_one (lit false (Atom.Bound n)) l last)))
    ])

first_begun : (p : Problem) → AreBegun p.sig.sorts (first_state p).held.atoms
first_begun p =
    let m = p.sig.sorts in
    let s1 = with_ground_clauses p.clauses (empty_state p) in
    let s2 = with_elements (range_with_len 0 m) s1 in
    let s3 = with_first_sum m s2 in
    let h3 = begun_sum m m s2 refl (begun_elements m (range_with_len 0 m) s1 (begun_ground m p.clauses (empty_state p) (λ a size k. absurd (knows_has [] a k)))) in
    begun_more m s3.held.atoms (lit true (Atom.Bound m) ∷ []) h3 (λ l q size. inr (m, omega arith, omega arith, ap (λ (x : Literal). x.atom) (sym (only_one (lit true (Atom.Bound m)) l q))))

bound_known : (p : Problem) → Knows (first_state p).held.atoms (Atom.Bound p.sig.sorts)
bound_known p =
    let s3 = with_first_sum p.sig.sorts (with_elements (range_with_len 0 p.sig.sorts) (with_ground_clauses p.clauses (empty_state p))) in
    let ls : List Literal = lit true (Atom.Bound p.sig.sorts) ∷ [] in
    known_one (with_atoms s3.held.atoms ls) ls (lit true (Atom.Bound p.sig.sorts)) (inl refl) (all_known ls s3.held.atoms)

zero_card : (u k v : ℕ) → card u k ≡ card v 0 → k ≤ 0
zero_card u k v e = let q = (card_parts u k v 0 e).1 in omega (arith, q)

start_in_row : (p : Problem) (s : State) → s.bound ≡ p.sig.sorts → AreBegun p.sig.sorts s.held.atoms → Knows s.held.atoms (Atom.Bound p.sig.sorts) → StartStays p s → SizesAreInRow p s
start_in_row p s b begun last stays = record {
  cards = λ u lt. record {
    top = 0;
    low = omega arith;
    known = λ k. (
      λ q. elim (begun (card u k) refl q) [ inl w ↦ zero_card u k w.0 w.1 | inr w ↦ absurd (no_bound u k w.0 w.3) ],
      λ le. let z : k ≡ 0 = omega (arith, le) in subst (λ n. Knows s.held.atoms (card u n)) (sym z) (known_one s.held.atoms (not_empty u) (lit false (card u 0)) (inl refl) (stays.elements u lt).known),
    );
  };
  bounds = λ j. (
    λ q. elim (begun (Atom.Bound j) refl q) [
      | inl w ↦ absurd (no_bound w.0 0 j (sym w.1))
      | inr w ↦ (let same : j ≡ w.0 = cc w.3 in let low = w.1 in let high = w.2 in (omega (arith, same, low), omega (arith, same, high, b)))
    ],
    λ r. let low = r.0 in let high = r.1 in elim (cases_eq j p.sig.sorts) [
      | inl same ↦ subst (λ n. Knows s.held.atoms (Atom.Bound n)) (sym same) last
      | inr other ↦ (let e : p.sig.sorts ≡ suc j = omega (arith, low, high, b, other) in
          known_one s.held.atoms (not_fewer j) (lit false (Atom.Bound j)) (Has-end (map (λ u. lit true (card u 0)) (range_with_len 0 (suc j))) (lit false (Atom.Bound j))) (stays.sum j e).known)
    ],
  );
  least = omega (arith, b);
}

-- what the menu offers to decide is known, or the next bound of a sort
pub in_numbers : (s : State) (v : Bool) (u k : ℕ) → is_known s (card u k) ≡ true → holds s v (card u k) ≡ true → Has (numbers_with s v u) k
in_numbers s v u k known h =
    let f : Atom → List ℕ = λ a. cond (holds s v a) (number_in u a) [] in
    let here : f (card u k) ≡ k ∷ [] = ap (λ (b : Bool). cond b (cond (u == u) (k ∷ []) []) []) h ∙ ap (λ (b : Bool). cond b (k ∷ []) []) (eq-eqb u u refl) in
    flat_in f k s.held.atoms (card u k) (known_has s (card u k) known) (subst (λ (ks : List ℕ). Has ks k) (sym here) (inl refl))

number_by : (u k : ℕ) (s : SortId) (j : ℕ) (b : Bool) → (s.0 == u) ≡ b → Has (cond b (j ∷ []) []) k → Atom.Card s j ≡ card u k
number_by u k s j true e h = let same = eqb-true s.0 u e in let number = only_one j k h in λ i. Atom.Card (record { 0 = same i }) (number i)
number_by u k s j false e h = absurd h

number_at : (u k : ℕ) (a : Atom) → Has (number_in u a) k → a ≡ card u k
number_at u k (Atom.Card s j) h = number_by u k s j (s.0 == u) refl h
number_at u k (Atom.Equal a b) h = absurd h
number_at u k (Atom.Pred t) h = absurd h
number_at u k (Atom.Bound n) h = absurd h

holds_by : (s : State) (v : Bool) (a : Atom) (u k : ℕ) (b : Bool) → holds s v a ≡ b → Has (cond b (number_in u a) []) k → holds s v (card u k) ≡ true
holds_by s v a u k true e h = subst (λ (x : Atom). holds s v x ≡ true) (number_at u k a h) e
holds_by s v a u k false e h = absurd h

pub of_numbers : (s : State) (v : Bool) (u k : ℕ) → Has (numbers_with s v u) k → holds s v (card u k) ≡ true
of_numbers s v u k h =
    let w = in_flat (λ (a : Atom). cond (holds s v a) (number_in u a) []) k s.held.atoms h in
    holds_by s v w.0 u k (holds s v w.0) refl w.2

greatest_step : (n : ℕ) (o : Option ℕ) (m : ℕ) → greatest_with n o ≡ m → (m ≡ n) ⊎ (o ≡ Some m)
greatest_step n None m e = inl (sym e)
greatest_step n (Some k) m e =
    elim (cases_lt k n) [
      | inl lt ↦ inl (omega (arith, lt, e))
      | inr ge ↦ inr (ap Some (omega (arith, ge, e)))
    ]

pub greatest_in : (ns : List ℕ) (m : ℕ) → greatest ns ≡ Some m → Has ns m
greatest_in [] m e = absurd (cc e)
greatest_in (n ∷ ns) m e =
    elim (greatest_step n (greatest ns) m (cc e)) [
      | inl same ↦ inl (sym same)
      | inr more ↦ inr (greatest_in ns m more)
    ]

greatest_most : (n : ℕ) (o : Option ℕ) → n ≤ greatest_with n o
greatest_most n None = omega arith
greatest_most n (Some k) = omega arith

greatest_over : (n : ℕ) (o : Option ℕ) (k m : ℕ) → o ≡ Some m → k ≤ m → k ≤ greatest_with n o
greatest_over n None k m e le = absurd (cc e)
greatest_over n (Some j) k m e le = let same : j ≡ m = cc e in omega (arith, same, le)

pub greatest_above : (ns : List ℕ) (k : ℕ) → Has ns k → (m : ℕ) × (greatest ns ≡ Some m) × (k ≤ m)
greatest_above [] k h = absurd h
greatest_above (n ∷ ns) k (inl e) = (greatest_with n (greatest ns), refl, (let g = greatest_most n (greatest ns) in omega (arith, g, e)))
greatest_above (n ∷ ns) k (inr h) = let r = greatest_above ns k h in (greatest_with n (greatest ns), refl, greatest_over n (greatest ns) k r.0 r.1 r.2)

-- every sort has a greatest false bound, and what they add up to
pub bounds_there : (s : State) (v n : ℕ) → ((u : ℕ) → v ≤ u → u < v + n → (m : ℕ) × (greatest_false s u ≡ Some m)) → (ks : List ℕ) × (bounds_from s v n ≡ Some ks)
bounds_there s v zero h = ([], refl)
bounds_there s v (suc n) h =
    let g = h v (omega arith) (omega arith) in
    let r = bounds_there s (v + 1) n (λ u low high. h u (omega (arith, low)) (omega (arith, high))) in
    (g.0 ∷ r.0, (λ i. with_bound (g.1 i) (r.1 i)))

pub with_parts : (o : Option ℕ) (q : Option (List ℕ)) (ks : List ℕ) → with_bound o q ≡ Some ks → (k : ℕ) × (js : List ℕ) × (o ≡ Some k) × (q ≡ Some js) × (ks ≡ k ∷ js)
with_parts None q ks e = absurd (cc e)
with_parts (Some k) None ks e = absurd (cc e)
with_parts (Some k) (Some js) ks e = (k, js, refl, refl, sym (cc e))

one_within : (s : State) (v n : ℕ) (ks : List ℕ) (u m : ℕ) → bounds_from s v n ≡ Some ks → v ≤ u → u < v + n → greatest_false s u ≡ Some m → m + 1 ≤ total_above ks
one_within s v zero ks u m e low high g = absurd (omega (arith, low, high))
one_within s v (suc n) ks u m e low high g =
    let w = with_parts (greatest_false s v) (bounds_from s (v + 1) n) ks e in
    subst (λ (js : List ℕ). m + 1 ≤ total_above js) (sym w.4) (elim (cases_eq u v) [
      | inl same ↦ (let q : Some w.0 ≡ Some m = sym w.2 ∙ (ap (greatest_false s) (sym same) ∙ g) in let k : w.0 ≡ m = cc q in omega (arith, k))
      | inr other ↦ (let r = one_within s (v + 1) n w.1 u m w.3 (omega (arith, low, other)) (omega (arith, high)) g in omega (arith, r))
    ])

-- a sum lemma that is due is false
pub sum_fails : (s : State) (v n : ℕ) (ks : List ℕ) → bounds_from s v n ≡ Some ks → holds s true (Atom.Bound s.bound) ≡ true → open_literals s (sum_literals s v ks) ≡ []
sum_fails s v zero ks e b =
    let none : [] ≡ ks = cc e in
    subst (λ (js : List ℕ). open_literals s (sum_literals s v js) ≡ []) none (ap (λ (c : Bool). cond (not c) (lit false (Atom.Bound s.bound) ∷ []) []) b)
sum_fails s v (suc n) ks e b =
    let w = with_parts (greatest_false s v) (bounds_from s (v + 1) n) ks e in
    let here : holds s false (card v w.0) ≡ true = of_numbers s false v w.0 (greatest_in (numbers_with s false v) w.0 w.2) in
    subst (λ (js : List ℕ). open_literals s (sum_literals s v js) ≡ []) (sym w.4) (ap (λ (c : Bool). cond (not c) (lit true (card v w.0) ∷ open_literals s (sum_literals s (v + 1) w.1)) (open_literals s (sum_literals s (v + 1) w.1))) here ∙ sum_fails s (v + 1) n w.1 w.3 b)

pub take_none : (xs : List Offer) → take 1 xs ≡ [] → xs ≡ []
take_none [] e = refl
take_none (x ∷ xs) e = absurd (cc e)

pub sum_part : (s : State) (k : Known) → first_lemmas s k ≡ [] → sum_offers_at s (bounds_from s 0 s.held.sig.sorts) ≡ []
sum_part s k e =
    let a = (append_none (take 1 (lemmas_of s k Reader.Congruence)) _ e).1 in
    let c = (append_none (take 1 (lemmas_of s k Reader.Regions)) _ a).1 in
    let d = (append_none (take 1 (lemmas_of s k Reader.Sum)) _ c).0 in
    (append_none (sum_offers_at s (bounds_from s 0 s.held.sig.sorts)) _ (take_none (lemmas_of s k Reader.Sum) d)).0

pub offer_lemma : (s : State) (r : Reader) (d : Due) (ls : List Literal) (os : List Literal) → os ≡ [] → by_open s r d os ≡ [] → ⊥
offer_lemma s r d ls [] e f = absurd (cc f)
offer_lemma s r d ls (o ∷ os) e f = absurd (cc e)

pub not_due : (b : Bool) (s : State) (ks : List ℕ) → open_literals s (sum_literals s 0 ks) ≡ [] → cond b (offer_for s Reader.Sum Due.SumBound (sum_literals s 0 ks)) [] ≡ [] → b ≡ false
not_due true s ks e f = absurd (offer_lemma s Reader.Sum Due.SumBound (sum_literals s 0 ks) (open_literals s (sum_literals s 0 ks)) e f)
not_due false s ks e f = refl

pub within_bound : (b c : Bool) → (b && c) ≡ false → c ≡ true → b ≡ false
within_bound true true e f = absurd (true≢false e)
within_bound true false e f = absurd (false≢true f)
within_bound false c e f = refl

refuted_holds : (s : State) (a : Atom) (o : Option ℕ) → find_atom s.held.atoms a ≡ o → TrailIsExplained s → is_refuted_by s.trail.entries o ≡ true → holds s false a ≡ true
refuted_holds s a None e x r = absurd (false≢true r)
refuted_holds s a (Some n) e x r =
    let f = refuted_false s a n x e (subst (λ (o : Option ℕ). is_refuted_by s.trail.entries o ≡ true) (sym e) r) in
    subst (λ (o : Option ℕ). is_value (option_and_then (value_by s.trail.entries) o) false ≡ true) (sym e) f

pub holds_known : (s : State) (a : Atom) (v : Bool) (o : Option ℕ) → find_atom s.held.atoms a ≡ o → is_value (option_and_then (value_by s.trail.entries) o) v ≡ true → is_some_number o ≡ true
holds_known s a v None e h = absurd (false≢true h)
holds_known s a v (Some n) e h = refl

range_is : (a n i d : ℕ) → i < n → get_or (range_with_len a n) i d ≡ a + i
range_is a zero i d lt = absurd (omega (arith, lt))
range_is a (suc n) zero d lt = omega arith
range_is a (suc n) (suc i) d lt = let e = range_is (a + 1) n i d (omega (arith, lt)) in omega (arith, e)

not_back : (b : Bool) → not b ≡ false → b ≡ true
not_back true e = refl
not_back false e = absurd (true≢false e)

place_step : (b : Bool) (n l : ℕ) → n ≤ l → cond b 0 (1 + n) ≤ suc l
place_step true n l h = omega arith
place_step false n l h = omega (arith, h)

place_most : (test : ℕ → Bool) (xs : List ℕ) → position_or_len test xs ≤ length xs
place_most test [] = omega arith
place_most test (x ∷ xs) =
    let e = place_cons test x xs (test x) refl in
    let q = place_step (test x) (position_or_len test xs) (length xs) (place_most test xs) in
    omega (arith, e, q)

module _ (p : Problem) (s : State) (k : Known) (h : SizesAreInRow p s) (bounded : IsBounded p s) (sig : s.held.sig.sorts ≡ p.sig.sorts) (turns : turns_of s ≡ []) (firsts : first_lemmas s k ≡ []) where
  abbrev AllFit : List Offer → Type 0
  AllFit xs = (o : Offer) → Has xs o → DecidesInRow p s o

  none : AllFit []
  none o q = absurd q

  one : (x : Offer) → DecidesInRow p s x → AllFit (x ∷ [])
  one x q o (inl e) = subst (DecidesInRow p s) e q
  one x q o (inr r) = absurd r

  joined : (xs ys : List Offer) → AllFit xs → AllFit ys → AllFit (xs ++ ys)
  joined xs ys a b o q = elim (Has-append xs ys o q) [ inl r ↦ a o r | inr r ↦ b o r ]

  when : (c : Bool) (xs ys : List Offer) → (c ≡ true → AllFit xs) → (c ≡ false → AllFit ys) → AllFit (cond c xs ys)
  when true xs ys a b = a refl
  when false xs ys a b = b refl

  mapped : {X : Type 0} (f : X → List Offer) (xs : List X) → ((x : X) → Has xs x → AllFit (f x)) → AllFit (flat_map f xs)
  mapped f [] q = none
  mapped f (x ∷ xs) q = joined (f x) (flat_map f xs) (q x (inl refl)) (mapped f xs (λ y r. q y (inr r)))

  first_of : (xs ys : List Offer) → AllFit xs → AllFit ys → AllFit (or_else xs ys)
  first_of [] ys a b = b
  first_of (x ∷ xs) ys a b = a

  two : (a : Atom) (v u : Bool) → is_known s a ≡ true → AllFit (Offer.Decide (lit v a) ∷ (Offer.Decide (lit u a) ∷ []))
  two a v u f = joined (Offer.Decide (lit v a) ∷ []) (Offer.Decide (lit u a) ∷ []) (one (Offer.Decide (lit v a)) (inl f)) (one (Offer.Decide (lit u a)) (inl f))

  both : (n : ℕ) (o : Option Atom) → slice_get s.held.atoms n ≡ o → AllFit (both_ways s n o)
  both n None e = none
  both n (Some a) e = when (is_unvalued s a && is_wanted s n) _ [] (λ u. two a false true (has_known s.held.atoms a (Has-get s.held.atoms n a e))) (λ u. none)

  atoms : AllFit (clause_atoms s)
  atoms = mapped (λ n. both_ways s n (slice_get s.held.atoms n)) (range_with_len 0 (length s.held.atoms)) (λ n q. both n (slice_get s.held.atoms n) refl)

  frees : AllFit (free_decisions s)
  frees = mapped (free_decision s) s.held.atoms (λ a q. when (is_size a && is_unvalued s a) _ [] (λ e. one (Offer.Decide (lit false a)) (inl (has_known s.held.atoms a q))) (λ e. none))

  present : is_known s (Atom.Bound s.bound) ≡ true
  present = let l = h.least in (h.bounds s.bound).1 (omega (arith, l), omega arith)

  -- the bound has a value: it is true, and the start's lemmas are used up
  pub is_decided : s.free ≡ false → is_unvalued s (Atom.Bound s.bound) ≡ false → BoundIsDecided s
  is_decided f closed =
      elim (bound_open p s bounded f) [
        | inl free ↦ absurd (true≢false (sym free ∙ closed))
        | inr q ↦ elim q [
          | inl refuted ↦ absurd (true≢false (sym refuted ∙ turn_none s.free (is_refuted s (Atom.Bound s.bound)) f turns))
          | inr d ↦ d
        ]
      ]

  pub is_large : BoundIsDecided s → AreNotSmaller p s
  is_large d =
      let most = level_most 0 s.trail.entries d.place d.entry bounded.good.lawful.trail.levels d.at in
      let first = d.first in
      bounded.large (omega (arith, most, first))

  pub bound_true : (d : BoundIsDecided s) → holds s true (Atom.Bound s.bound) ≡ true
  bound_true d =
      let f = false_by s.trail.entries d.place d.entry bounded.good.lawful.trail.once d.at in
      let sign : not (not d.entry.lit.positive) ≡ true = ap (λ (b : Bool). not (not b)) d.decides.positive in
      subst (λ (o : Option ℕ). is_value (option_and_then (value_by s.trail.entries) o) true ≡ true) (sym d.decides.bound) (subst (λ (b : Bool). is_value (value_of s.trail.entries d.entry.lit.atom) b ≡ true) sign f)

  pub zero_false : (d : BoundIsDecided s) (u : ℕ) → u < p.sig.sorts → holds s false (card u 0) ≡ true
  zero_false d u lt = refuted_holds s (card u 0) (find_atom s.held.atoms (card u 0)) refl bounded.good.lawful.trail ((is_large d).elements u lt)

  false_known : (a : Atom) → holds s false a ≡ true → is_known s a ≡ true
  false_known a q = holds_known s a false (find_atom s.held.atoms a) refl q

  -- a false bound on a sort is below the bound on the sum
  false_low : (d : BoundIsDecided s) (u j : ℕ) → u < p.sig.sorts → holds s false (card u j) ≡ true → j + 1 ≤ s.bound
  false_low d u j lt q =
      let m = s.held.sig.sorts in
      let all : (v : ℕ) → 0 ≤ v → v < 0 + m → (g : ℕ) × (greatest_false s v ≡ Some g) = λ v low high. let z = zero_false d v (omega (arith, high, sig)) in let g = greatest_above (numbers_with s false v) 0 (in_numbers s false v 0 (false_known (card v 0) z) z) in (g.0, g.1) in
      let ks = bounds_there s 0 m all in
      let g = greatest_above (numbers_with s false u) j (in_numbers s false u j (false_known (card u j) q) q) in
      let above = one_within s 0 m ks.0 u g.0 ks.1 (omega arith) (omega (arith, lt, sig)) g.1 in
      let fails = sum_fails s 0 m ks.0 ks.1 (bound_true d) in
      let empty : sum_offers_at s (Some ks.0) ≡ [] = ap (sum_offers_at s) (sym ks.1) ∙ sum_part s k firsts in
      let due = not_due (is_sum_due s (Some ks.0)) s ks.0 fails empty in
      let low = ltb-false s.bound (total_above ks.0) (within_bound (nat_lt s.bound (total_above ks.0)) (holds s true (Atom.Bound s.bound)) due (bound_true d)) in
      let most = g.2 in
      omega (arith, above, low, most)

  abbrev pub test : ℕ → ℕ → Bool
  test u i = not (holds s false (card u (i + 1)))

  abbrev pub place : ℕ → ℕ
  place u = position_or_len (test u) (range_with_len 0 (length s.held.atoms))

  false_before : (u i : ℕ) → i < place u → holds s false (card u (i + 1)) ≡ true
  false_before u i lt =
      let xs = range_with_len 0 (length s.held.atoms) in
      let most = place_most (test u) xs in
      let long = length-range_with_len 0 (length s.held.atoms) in
      let at : get_or xs i 0 ≡ i = (let e = range_is 0 (length s.held.atoms) i 0 (omega (arith, lt, most, long)) in omega (arith, e)) in
      subst (λ n. holds s false (card u (n + 1)) ≡ true) at (not_back (holds s false (card u (get_or xs i 0 + 1))) (fails_before_first (test u) xs i 0 lt))

  pub false_up_to : (d : BoundIsDecided s) (u j : ℕ) → u < p.sig.sorts → j ≤ place u → holds s false (card u j) ≡ true
  false_up_to d u zero lt le = zero_false d u lt
  false_up_to d u (suc j) lt le = let z : j + 1 ≡ suc j = omega arith in subst (λ n. holds s false (card u n) ≡ true) z (false_before u j (omega (arith, le)))

  next : s.free ≡ false → is_unvalued s (Atom.Bound s.bound) ≡ false → (u : ℕ) → u < p.sig.sorts → IsNext p s (card u (least_open s u))
  next f closed u lt =
      let d = is_decided f closed in
      record {
        sort_of = u;
        size = least_open s u;
        is = refl;
        before = λ j below. false_known (card u j) (false_up_to d u j lt (omega (arith, below)));
        low = false_low d u (place u) lt (false_up_to d u (place u) lt (omega arith));
      }

  sizes : s.free ≡ false → is_unvalued s (Atom.Bound s.bound) ≡ false → AllFit (size_decisions s)
  sizes f closed = mapped (size_decision s) (range_with_len 0 s.held.sig.sorts) (λ u q. when (is_unvalued s (card u (least_open s u))) _ [] (λ e. one (Offer.Decide (lit true (card u (least_open s u)))) (inr (next f closed u (let lt = (in_range u 0 s.held.sig.sorts q).1 in omega (arith, lt, sig))))) (λ e. none))

  decisions : AllFit (decisions_of s)
  decisions = when s.free (or_else (free_decisions s) (clause_atoms s)) (bounded_decisions s)
      (λ e. first_of (free_decisions s) (clause_atoms s) frees atoms)
      (λ f. when (is_unvalued s (Atom.Bound s.bound)) (Offer.Decide (lit true (Atom.Bound s.bound)) ∷ []) (or_else (size_decisions s) (clause_atoms s)) (λ u. one (Offer.Decide (lit true (Atom.Bound s.bound))) (inl present)) (λ u. first_of (size_decisions s) (clause_atoms s) (sizes f u) atoms))

  pair : (o : Option (ℕ × ℕ)) → AllFit (pair_offers s o)
  pair None = none
  pair (Some q) = when (is_known s (equality q.0 q.1)) (split_decisions s (equality q.0 q.1)) (Offer.Split q.0 q.1 ∷ [])
      (λ e. when (is_unvalued s (equality q.0 q.1)) _ [] (λ u. two (equality q.0 q.1) true false e) (λ u. none))
      (λ e. one (Offer.Split q.0 q.1) tt)

  split : (o : Option Pick) → AllFit (split_offers s o)
  split None = none
  split (Some pick) = pair pick.pair

  splits : AllFit (splits_of s)
  splits = when s.free [] (flat_map (split_offers s) s.picks) (λ e. none) (λ f. mapped (split_offers s) s.picks (λ o q. split o))

  decided : (l : Literal) → Has (menu_of p s k) (Offer.Decide l) → DecidesInRow p s (Offer.Decide l)
  decided l q = elim (at_five p s k (Offer.Decide l) (omega arith) (omega arith) q) [ inl r ↦ decisions (Offer.Decide l) r | inr r ↦ splits (Offer.Decide l) r ]

either_row : (p : Problem) (s : State) (b : Bool) (y z : Offer) → DecidesInRow p s y → DecidesInRow p s z → DecidesInRow p s (cond b y z)
either_row p s true y z h g = h
either_row p s false y z h g = g

pub offered_in_row : (p : Problem) (b : Budget) (s : State) (k : Known) (o : Offer) → SizesAreInRow p s → IsBounded p s → s.held.sig.sorts ≡ p.sig.sorts → Has (menu_of p s k) o → DecidesInRow p s (carried b s o)
offered_in_row p b s k (Offer.Decide l) h bounded sig q =
    let g = quiet_before p s k (Offer.Decide l) (omega arith) q in
    either_row p s (s.decisions == b.decisions) (Offer.Answer Word.Unknown) (Offer.Decide l) tt (decided p s k h bounded sig g.3 g.2 l q)
offered_in_row p b s k (Offer.Instance i env) h bounded sig q = either_row p s (s.instances == b.instances) (Offer.Answer Word.Unknown) (Offer.Instance i env) tt tt
offered_in_row p b s k (Offer.Learn n) h bounded sig q = tt
offered_in_row p b s k (Offer.Unit' n) h bounded sig q = tt
offered_in_row p b s k (Offer.Take r) h bounded sig q = tt
offered_in_row p b s k (Offer.Lemma r d) h bounded sig q = tt
offered_in_row p b s k (Offer.Imply r d) h bounded sig q = tt
offered_in_row p b s k Offer.Turn h bounded sig q = tt
offered_in_row p b s k (Offer.Split a c) h bounded sig q = tt
offered_in_row p b s k Offer.Raise h bounded sig q = tt
offered_in_row p b s k (Offer.Answer w) h bounded sig q = tt

-- the signature stays
abbrev SameSig : State → State → Type 0
SameSig s t = t.held.sig ≡ s.held.sig

learnt_sig : (n : ℕ) (lits : Clause) (l : Lit) (level : ℕ) (steps : Steps) (s : State) → SameSig s (after_learning n steps lits l level s)
learnt_sig n lits l level [] s = refl
learnt_sig n lits l level (step ∷ steps) s = refl

row_sig : (p : Problem) (b : Budget) (s : State) (k : Known) (o : Offer) (t : State) → Row p b s k o t → SameSig s t
row_sig p b s k (Offer.Learn n) t r = ap (λ (u : State). u.held.sig) r.after ∙ learnt_sig n r.lits r.lit r.level r.steps s
row_sig p b s k (Offer.Unit' n) t r = ap (λ (u : State). u.held.sig) r.after
row_sig p b s k (Offer.Take e) t r = ap (λ (u : State). u.held.sig) r.after
row_sig p b s k (Offer.Lemma e d) t r = ap (λ (u : State). u.held.sig) r.after
row_sig p b s k (Offer.Imply e d) t r = ap (λ (u : State). u.held.sig) r.after
row_sig p b s k Offer.Turn t r = ap (λ (u : State). u.held.sig) r.after
row_sig p b s k (Offer.Decide l) t r = ap (λ (u : State). u.held.sig) r.after
row_sig p b s k (Offer.Split a c) t r = ap (λ (u : State). u.held.sig) r.after
row_sig p b s k (Offer.Instance i env) t r = ap (λ (u : State). u.held.sig) r.after
row_sig p b s k Offer.Raise t r = ap (λ (u : State). u.held.sig) r.after
row_sig p b s k (Offer.Answer w) t r = ap (λ (u : State). u.held.sig) r.1

pub record IsOrdered (p : Problem) (s : State) : Type 0 where
  pub bounded : IsBounded p s
  pub row : SizesAreInRow p s
  pub sig : s.held.sig ≡ p.sig

pub step_ordered : (p : Problem) (b : Budget) (s : State) (e : Event) (t : State) → IsOrdered p s → Step p b s e t → IsOrdered p t
step_ordered p b s e t h step =
    let o = carried b s step.offer in
    let m = step.move in
    let d = offered_in_row p b s step.known step.offer h.row h.bounded (ap (λ (g : Sig). g.sorts) h.sig) (Has-get (menu_of p s step.known) step.place step.offer step.there) in
    record {
      bounded = step_bounded p b s e t h.bounded step;
      row = settled_in_row p m.mid t (row_in_row p b s step.known o m.mid d h.row m.row) m.settles;
      sig = ap (λ (u : State). u.held.sig) m.settles.after ∙ (row_sig p b s step.known o m.mid m.row ∙ h.sig);
    }

run_ordered : (p : Problem) (b : Budget) (s : State) (es : List Event) (t : State) → IsOrdered p s → Run p b s es t → IsOrdered p t
run_ordered p b s [] t h r = subst (IsOrdered p) (sym r) h
run_ordered p b s (e ∷ es) t h r = run_ordered p b r.0 es t (step_ordered p b s e r.0 h r.1) r.3

pub begun_ordered : (p : Problem) (s : State) → IsStart p s → IsOrdered p s
begun_ordered p s st =
    let begun : AreBegun p.sig.sorts s.held.atoms = subst (λ (u : State). AreBegun p.sig.sorts u.held.atoms) (sym st.after) (begun_more p.sig.sorts (first_state p).held.atoms (flat_map pick_literals st.picks) (first_begun p) (λ l q size. absurd (false≢true (sym (picks_plain st.picks l q) ∙ size)))) in
    let last : Knows s.held.atoms (Atom.Bound p.sig.sorts) = subst (λ (u : State). Knows u.held.atoms (Atom.Bound p.sig.sorts)) (sym st.after) (known_then (flat_map pick_literals st.picks) (first_state p).held.atoms (Atom.Bound p.sig.sorts) (bound_known p)) in
    record {
      bounded = begun_bounded p s st;
      row = start_in_row p s (start_bound p s st) begun last (start_stays p s st);
      sig = start_sig p s st;
    }

pub reached_ordered : (p : Problem) (b : Budget) (events : List Event) (s : State) → IsReached p b events s → IsOrdered p s
reached_ordered p b events s h = run_ordered p b h.first events s (begun_ordered p h.first h.start) h.run

pub reached_in_row : (p : Problem) (b : Budget) (events : List Event) (s : State) → IsReached p b events s → SizesAreInRow p s
reached_in_row p b events s h = (reached_ordered p b events s h).row
