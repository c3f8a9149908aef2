-- Each event but a decision, an instance and an answer leaves less that can be done.
use Rattle.std.proofs.Common.{◌≡◌, ℕ, suc, ◌+◌, ◌-◌, ◌*◌, ◌<◌, ◌≤◌, Bool, true, false, not, cond, nat_le, List, [], ◌∷◌, ◌++◌, length, map, Some, None, inl, inr, refl, sym, ap, subst, ◌∙◌, arith}
use Rattle.std.specs.Prelude.{Option, option_and_then, slice_get}
use Rattle.std.specs.List.{count_by, flat_map, list_any}
use Rattle.std.proofs.Math.Nat.{suc-mul}
use Rattle.std.proofs.lemmas.Nat.{mul-le}
use Rattle.std.proofs.lemmas.Bool.{cases_Bool, not-true, true≢false}
use Rattle.std.proofs.lemmas.List.{length_push}
use Rattle.std.proofs.lemmas.List.Sums.{count_by-le-length}
use Rattle.fm_base.specs.declared.ids.AtomId.{AtomId}
use Rattle.fm_base.specs.declared.ids.Lit.{Lit}
use Rattle.fm_base.specs.declared.ids.Reader.{Reader}
use Rattle.fm_base.specs.declared.signature.Ty.{Ty}
use Rattle.fm_base.proofs.Resolution.{mapped_has}
use Rattle.fm_bank.specs.Instances.{equality}
use Rattle.fm_bank.specs.Interning.{IsFront, atom_number, find_atom, lit_in, with_atoms}
use Rattle.fm_bank.specs.declared.atom.Atom.{Atom}
use Rattle.fm_bank.specs.declared.literal.Literal.{Literal}
use Rattle.fm_bank.proofs.Growing.{atoms_fronts, front-refl}
use Rattle.fm_bank.proofs.Meanings.{typed_within}
use Rattle.fm_sat.specs.Learning.{IsAsserting, Steps}
use Rattle.fm_sat.specs.Store.{HasNoFalse}
use Rattle.fm_sat.proofs.Endings.{all_false}
use Rattle.fm_sat.proofs.Explaining.{unit_reason}
use Rattle.fm_trail.specs.declared.entry.Entry.{Entry}
use Rattle.fm_trail.specs.declared.heads.Heads.{Heads}
use Rattle.fm_trail.specs.Trail.{AreLevelled, are_false, head_of, heads_back, implied, is_false, is_none, level_of, up_to, with_entry, with_head}
use Rattle.fm_trail.proofs.Going.{level_cut, level_on_most}
use Rattle.fm_trail.proofs.Places.{get_more, place_none, value_none}
use Rattle.fm_steps.specs.Bounds.{SizesAreInRow}
use Rattle.fm_steps.specs.Facts.{AtomsAreKnown}
use Rattle.fm_steps.specs.Lemmas.{Due, are_known, is_false_lemma, is_known, is_some_number, literal_fails}
use Rattle.fm_steps.specs.Lines.{IsWellHeld}
use Rattle.fm_steps.specs.Offered.{raised}
use Rattle.fm_steps.specs.Picks.{Known, Settles, pick_literals}
use Rattle.fm_steps.specs.Progress.{atoms_up_to, equalities, is_fresh, open_atoms, quiet, return_weight, returns_left, steps_left, turns_left, unknown_equalities, work_left}
use Rattle.fm_steps.specs.Rows.{ImplyRow, LearnRow, LemmaRow, RaiseRow, SplitRow, TakeRow, TurnRow, UnitRow, after_learning}
use Rattle.fm_steps.specs.Sizes.{is_unvalued, lit, sort}
use Rattle.fm_steps.specs.State.{Clause, Pick, Problem, State, back_to, know, put, read_one, trail_back, value_by, with_literals}
use Rattle.fm_steps.proofs.Bounded.{IsBounded, level_implied}
use Rattle.fm_steps.proofs.Due.{all_in}
use Rattle.fm_steps.proofs.Explained.{by_numbers}
use Rattle.fm_steps.proofs.Fresh.{imply_turns, learn_turns, lemma_turns, none_any, raise_turns, settled_turns, split_turns, take_turns, turn_turns, unit_turns}
use Rattle.fm_steps.proofs.Lists.{Has-get, any_last, get_last}
use Rattle.fm_steps.proofs.Numbers.{all_known, find_kept, get_place, known_any, known_one}
use Rattle.fm_steps.proofs.Offered.{fails_by_number, there_at}
use Rattle.fm_steps.proofs.Shown.{number_of_place}
use Rattle.fm_steps.proofs.Staying.{known_kept}
use Rattle.fm_steps.proofs.Tallies.{atoms_long, counts_fewer, counts_less, equality_in, known_in}
use Rattle.fm_steps.proofs.Trails.{no_value, none_by_number, none_from}
use Rattle.fm_steps.proofs.Written.{has_place}

-- numbers: one step less, with no more returns; a return less; and the last return
on_less : (r r' w w' x x' : ℕ) → r' ≤ r → w' ≡ w → x' < x → r' * w' + x' < r * w + x
on_less r r' w w' x x' le e lt = let m = mul-le r' w' r w le (omega (arith, e)) in omega (arith, m, lt)

back_less : (r r' w w' x x' : ℕ) → suc r' ≤ r → w' ≡ w → x' < x + w → r' * w' + x' < r * w + x
back_less r r' w w' x x' le e lt =
    let m = mul-le (suc r') w' r w le (omega (arith, e)) in
    let q = suc-mul r' w' in
    omega (arith, m, q, e, lt)

last_less : (r r' w w' x x' : ℕ) → r' ≡ 0 → 1 ≤ r → x' < x + w → r' * w' + x' < r * w + x
last_less r r' w w' x x' z le lt =
    let none : r' * w' ≡ 0 * w' = ap (λ n. n * w') z in
    let m = mul-le 1 w r w le (omega arith) in
    let q = suc-mul 0 w in
    omega (arith, none, m, q, lt)

-- what is known stays known, and what has a value keeps it while the trail grows
unknown_back : (s t : State) (a : Atom) → IsFront s.held.atoms t.held.atoms → not (is_known t a) ≡ true → not (is_known s a) ≡ true
unknown_back s t a f e =
    elim (cases_Bool (is_known s a)) [
      | inl known ↦ absurd (true≢false (sym (known_kept s t a f known) ∙ not-true (is_known t a) e))
      | inr other ↦ ap not other
    ]

open_step : (f g : ℕ → Option Bool) (o q : Option ℕ) → ((n : ℕ) → o ≡ Some n → q ≡ Some n) → ((n : ℕ) → g n ≡ None → f n ≡ None) → is_none (option_and_then g q) ≡ true → is_none (option_and_then f o) ≡ true
open_step f g None q same back e = refl
open_step f g (Some n) q same back e =
    let here : is_none (g n) ≡ true = subst (λ (x : Option ℕ). is_none (option_and_then g x) ≡ true) (same n refl) e in
    ap is_none (back n (none_from (g n) here))

found_in : (atoms more : List Atom) (a : Atom) → IsFront atoms more → (n : ℕ) → find_atom atoms a ≡ Some n → find_atom more a ≡ Some n
found_in atoms more a f n e = subst (λ (xs : List Atom). find_atom xs a ≡ Some n) f.1 (find_kept atoms f.0 a n e)

open_back : (s t : State) → IsFront s.held.atoms t.held.atoms → ((n : ℕ) → value_by t.trail.entries n ≡ None → value_by s.trail.entries n ≡ None) → (a : Atom) → is_unvalued t a ≡ true → is_unvalued s a ≡ true
open_back s t f back a e = open_step (value_by s.trail.entries) (value_by t.trail.entries) (find_atom s.held.atoms a) (find_atom t.held.atoms a) (λ n q. found_in s.held.atoms t.held.atoms a f n q) back e

push_back : (es : List Entry) (e : Entry) (n : ℕ) → value_by (es ++ e ∷ []) n ≡ None → value_by es n ≡ None
push_back es e n none =
    let a : AtomId = record { 0 = n } in
    no_value es a (λ q f at same. place_none (es ++ e ∷ []) a (value_none (es ++ e ∷ []) a none) q f (get_more es (e ∷ []) q f at) same)

push_value : (es : List Entry) (e : Entry) (n : ℕ) → e.lit.atom.0 ≡ n → is_none (value_by (es ++ e ∷ []) n) ≡ false
push_value es e n same =
    let a : AtomId = record { 0 = n } in
    elim (cases_Bool (is_none (value_by (es ++ e ∷ []) n))) [
      | inl t ↦ absurd (place_none (es ++ e ∷ []) a (value_none (es ++ e ∷ []) a (none_from (value_by (es ++ e ∷ []) n) t)) (length es) e (get_last es e) same)
      | inr f ↦ f
    ]

quiet_most : (b : Bool) → ◌≤◌ (cond b 0 1) 1
quiet_most true = omega arith
quiet_most false = omega arith

-- what is unread of a trail with heads
abbrev left_of : Heads → ℕ → ℕ
left_of h n = (n - h.congruence) + (n - h.regions) + (n - h.sum) + (n - h.instances)

left_push : (h : Heads) (es : List Entry) (e : Entry) → left_of h (length (es ++ e ∷ [])) ≤ left_of h (length es) + 4
left_push h es e = let n = length_push es e in omega (arith, n)

left_read : (h : Heads) (n : ℕ) (r : Reader) → head_of h r < n → left_of (with_head h r (head_of h r + 1)) n < left_of h n
left_read h n Reader.Congruence lt = omega (arith, lt)
left_read h n Reader.Regions lt = omega (arith, lt)
left_read h n Reader.Sum lt = omega (arith, lt)
left_read h n Reader.Instances lt = omega (arith, lt)

left_back : (h : Heads) (n m : ℕ) → m ≤ n → left_of (heads_back m h) m ≤ left_of h n
left_back h n m le = omega (arith, le)

shorter_step : (b : Bool) (e : Entry) (es rest : List Entry) → length rest ≤ length es → length (cond b (e ∷ rest) rest) ≤ suc (length es)
shorter_step true e es rest h = omega (arith, h)
shorter_step false e es rest h = omega (arith, h)

shorter : (level : ℕ) (es : List Entry) → length (up_to level es) ≤ length es
shorter level [] = omega arith
shorter level (e ∷ es) = shorter_step (nat_le e.level level) e es (up_to level es) (shorter level es)

-- more atoms, and nothing else, leave no more to be done
more_atoms : (s t : State) → IsFront s.held.atoms t.held.atoms → ((n : ℕ) → value_by t.trail.entries n ≡ None → value_by s.trail.entries n ≡ None) → atoms_up_to t t.bound ≡ atoms_up_to s s.bound → open_atoms t ≤ open_atoms s
more_atoms s t f back same =
    let m = counts_less (is_unvalued t) (is_unvalued s) (atoms_up_to s s.bound) (open_back s t f back) in
    subst (λ (xs : List Atom). count_by (is_unvalued t) xs ≤ open_atoms s) (sym same) m

less_unknown : (s t : State) → IsFront s.held.atoms t.held.atoms → length t.held.terms ≡ length s.held.terms → unknown_equalities t ≤ unknown_equalities s
less_unknown s t f same =
    let m = counts_less (λ a. not (is_known t a)) (λ a. not (is_known s a)) (equalities (length s.held.terms)) (λ a e. unknown_back s t a f e) in
    subst (λ n. count_by (λ a. not (is_known t a)) (equalities n) ≤ unknown_equalities s) (sym same) m

abbrev grown : State → List (Option Pick) → State
grown mid picks = record mid { held = record mid.held { atoms = with_atoms mid.held.atoms (flat_map pick_literals picks) }; picks = picks }

pub settled_less : (mid t : State) → AtomsAreKnown mid → is_known mid (Atom.Bound mid.bound) ≡ true → Settles mid t → work_left t ≤ work_left mid
settled_less mid t known bound m = subst (λ (u : State). work_left u ≤ work_left mid) (sym m.after) here
  where
    here : work_left (grown mid m.picks) ≤ work_left mid
    here =
        let u = grown mid m.picks in
        let f = atoms_fronts (flat_map pick_literals m.picks) mid.held.atoms in
        let turns : turns_left u ≤ turns_left mid = subst (λ (x : State). turns_left x ≤ turns_left mid) m.after (settled_turns mid t known bound m) in
        let unknown = less_unknown mid u f refl in
        let opens = more_atoms mid u f (λ n e. e) refl in
        let product = mul-le (returns_left u) (return_weight u) (returns_left mid) (return_weight mid) (omega (arith, turns)) (omega arith) in
        omega (arith, product, unknown, opens)

module _ (p : Problem) (s : State) (bounded : IsBounded p s) (row : SizesAreInRow p s) (held : IsWellHeld p s) where
  abbrev es : List Entry
  es = s.trail.entries

  abbrev known : AtomsAreKnown s
  known = bounded.good.lawful.atoms

  abbrev levels : AreLevelled 0 es
  levels = bounded.good.lawful.trail.levels

  -- an entry more of a known atom leaves one open atom less
  open_fewer : (t : State) (a : Atom) (n : ℕ) (e : Entry) → atoms_up_to t t.bound ≡ atoms_up_to s s.bound → IsFront s.held.atoms t.held.atoms → t.trail.entries ≡ es ++ e ∷ [] → slice_get s.held.atoms n ≡ Some a → e.lit.atom.0 ≡ n → value_by es n ≡ None → open_atoms t < open_atoms s
  open_fewer t a n e same f trail at number none =
      let found = number_of_place p s bounded.good.lawful held n a at in
      let before : is_unvalued s a ≡ true = subst (λ (o : Option ℕ). is_none (option_and_then (value_by es) o) ≡ true) (sym found) (ap is_none none) in
      let now : is_none (value_by t.trail.entries n) ≡ false = subst (λ (xs : List Entry). is_none (value_by xs n) ≡ false) (sym trail) (push_value es e n number) in
      let after : is_unvalued t a ≡ false = subst (λ (o : Option ℕ). is_none (option_and_then (value_by t.trail.entries) o) ≡ false) (sym (found_in s.held.atoms t.held.atoms a f n found)) now in
      let back : (m : ℕ) → value_by t.trail.entries m ≡ None → value_by es m ≡ None = λ m q. push_back es e m (subst (λ (xs : List Entry). value_by xs m ≡ None) trail q) in
      let m = counts_fewer (is_unvalued t) (is_unvalued s) (atoms_up_to s s.bound) a (open_back s t f back) (known_in p s held row a (Has-get s.held.atoms n a at)) after before in
      subst (λ (xs : List Atom). count_by (is_unvalued t) xs < open_atoms s) (sym same) m

  quiet_one : HasNoFalse s.clauses es → quiet s ≡ 1
  quiet_one h =
      let none = none_any (are_false es) s.clauses (λ c has. let at = has_place s.clauses c has in h at.0 c at.1) in
      ap (λ (b : Bool). cond b 0 1) none

  pub unit_less : (n : ℕ) (t : State) → UnitRow s n t → work_left t < work_left s
  unit_less n t r =
      let u = unit_reason s.clauses es n r.lit r.unit in
      let a = there_at s.held.atoms r.lit.atom.0 (known.clauses n u.0.clause r.lit u.0.stored u.0.has) in
      let v : State = put r.lit n s in
      let turns : turns_left v ≤ turns_left s = subst (λ (x : State). turns_left x ≤ turns_left s) r.after (unit_turns p s bounded row n t r) in
      let level = level_implied es r.lit n in
      let before = quiet_one r.quiet in
      let opens = open_fewer v a.0 r.lit.atom.0 (implied es r.lit n) refl (front-refl s.held.atoms) refl a.1 refl u.1 in
      let calm = quiet_most (list_any (are_false v.trail.entries) v.clauses) in
      let left = left_push s.trail.heads es (implied es r.lit n) in
      subst (λ (x : State). work_left x < work_left s) (sym r.after)
      (on_less (returns_left s) (returns_left v) (return_weight s) (return_weight v) (steps_left s) (steps_left v) (omega (arith, turns, level)) refl (omega (arith, opens, before, calm, left)))

  pub take_less : (e : Reader) (t : State) → TakeRow s e t → work_left t < work_left s
  take_less e t r =
      let v : State = read_one e s in
      let turns : turns_left v ≤ turns_left s = subst (λ (x : State). turns_left x ≤ turns_left s) r.after (take_turns p s bounded row e t r) in
      let left = left_read s.trail.heads (length es) e r.left in
      subst (λ (x : State). work_left x < work_left s) (sym r.after)
      (on_less (returns_left s) (returns_left v) (return_weight s) (return_weight v) (steps_left s) (steps_left v) (omega (arith, turns)) refl (omega (arith, left)))

  -- a false lemma leaves a false clause where there was none
  quiet_none : (ls : List Literal) → are_known s ls ≡ true → is_false_lemma s ls ≡ true → quiet (with_literals ls s) ≡ 0
  quiet_none ls k f =
      let c : Clause = map (lit_in s.held.atoms) ls in
      let all = all_false es c (λ l has. let w = mapped_has (lit_in s.held.atoms) ls l has in subst (λ (x : Lit). is_false es x ≡ true) w.is (fails_by_number s w.lit (all_in (literal_fails s) ls w.lit f w.has))) in
      let now : are_false es (map (lit_in (with_atoms s.held.atoms ls)) ls) ≡ true = subst (λ (d : Clause). are_false es d ≡ true) (by_numbers s ls k) all in
      ap (λ (b : Bool). cond b 0 1) (any_last (are_false es) s.clauses (map (lit_in (with_atoms s.held.atoms ls)) ls) now)

  pub lemma_less : (k : Known) (e : Reader) (d : Due) (t : State) → HasNoFalse s.clauses es → LemmaRow s k e d t → work_left t < work_left s
  lemma_less k e d t none r =
      let v : State = with_literals r.lits s in
      let f = atoms_fronts r.lits s.held.atoms in
      let turns : turns_left v ≤ turns_left s = subst (λ (x : State). turns_left x ≤ turns_left s) r.after (lemma_turns p s bounded row k e d t r) in
      let unknown = less_unknown s v f refl in
      let opens = more_atoms s v f (λ n q. q) refl in
      let before = quiet_one none in
      let after = quiet_none r.lits r.known r.false_here in
      subst (λ (x : State). work_left x < work_left s) (sym r.after)
      (on_less (returns_left s) (returns_left v) (return_weight s) (return_weight v) (steps_left s) (steps_left v) (omega (arith, turns)) refl (omega (arith, unknown, opens, before, after)))

  pub imply_less : (k : Known) (e : Reader) (d : Due) (t : State) → HasNoFalse s.clauses es → ImplyRow s k e d t → work_left t < work_left s
  imply_less k e d t none r =
      let before = quiet_one none in
      let a = r.lit.atom in
      let l : Lit = lit_in s.held.atoms r.lit in
      let v : State = put l (length s.clauses) (with_literals r.lits s) in
      let f = atoms_fronts r.lits s.held.atoms in
      let there = known_one s.held.atoms r.lits r.lit r.unit.has r.known in
      let at = get_place s.held.atoms a (known_any s.held.atoms a there) in
      let turns : turns_left v ≤ turns_left s = subst (λ (x : State). turns_left x ≤ turns_left s) r.after (imply_turns p s bounded row k e d t r) in
      let level = level_implied es l (length s.clauses) in
      let unknown = less_unknown s v f refl in
      let opens = open_fewer v a (atom_number s.held.atoms a) (implied es l (length s.clauses)) refl f refl at refl (none_by_number es s.held.atoms a known.trail r.unit.unset) in
      let calm = quiet_most (list_any (are_false v.trail.entries) v.clauses) in
      let left = left_push s.trail.heads es (implied es l (length s.clauses)) in
      subst (λ (x : State). work_left x < work_left s) (sym r.after)
      (on_less (returns_left s) (returns_left v) (return_weight s) (return_weight v) (steps_left s) (steps_left v) (omega (arith, turns, level)) refl (omega (arith, unknown, opens, before, calm, left)))

  -- an equality becomes known
  pub split_less : (k : Known) (a b : ℕ) (t : State) → SplitRow s k a b t → work_left t < work_left s
  split_less k a b t r =
      let x = equality a b in
      let v : State = know x s in
      let ls : List Literal = lit true x ∷ [] in
      let f = atoms_fronts ls s.held.atoms in
      let turns : turns_left v ≤ turns_left s = subst (λ (x : State). turns_left x ≤ turns_left s) r.after (split_turns p s bounded row k a b t r) in
      let la = typed_within s.held.sig s.held.terms a (Ty.Of (sort r.sort_of)) r.first in
      let lb = typed_within s.held.sig s.held.terms b (Ty.Of (sort r.sort_of)) r.second in
      let after : not (is_known v x) ≡ false = ap not (known_one (with_atoms s.held.atoms ls) ls (lit true x) (inl refl) (all_known ls s.held.atoms)) in
      let before : not (is_known s x) ≡ true = ap (λ (o : Option ℕ). not (is_some_number o)) r.unknown in
      let unknown : unknown_equalities v < unknown_equalities s = counts_fewer (λ y. not (is_known v y)) (λ y. not (is_known s y)) (equalities (length s.held.terms)) x (λ y e. unknown_back s v y f e) (equality_in a b (length s.held.terms) la lb) after before in
      let opens = more_atoms s v f (λ n q. q) refl in
      subst (λ (y : State). work_left y < work_left s) (sym r.after)
      (on_less (returns_left s) (returns_left v) (return_weight s) (return_weight v) (steps_left s) (steps_left v) (omega (arith, turns)) refl (omega (arith, unknown, opens)))

  -- where the trail goes back
  open_most : (u : State) → open_atoms u ≤ length (atoms_up_to u u.bound)
  open_most u = count_by-le-length (is_unvalued u) (atoms_up_to u u.bound)

  abbrev after_return : List Clause → Lit → ℕ → ℕ → State
  after_return cs l n level = record s { clauses = cs; trail = with_entry (trail_back level s.trail) (implied (up_to level es) l n) }

  return_less : (cs : List Clause) (lits : Clause) (l : Lit) (n level : ℕ) → turns_left (after_return cs l n level) ≤ turns_left s → IsAsserting es lits l level → work_left (after_return cs l n level) < work_left s
  return_less cs lits l n level turns a =
      let u = after_return cs l n level in
      let back = up_to level es in
      let most = level_on_most 0 es l levels in
      let lower = a.lower in
      let cut = level_cut 0 level es levels (omega arith) (omega (arith, most, lower)) in
      let push = level_implied back l n in
      let opens = open_most u in
      let long = atoms_long s s.bound in
      let calm = quiet_most (list_any (are_false u.trail.entries) u.clauses) in
      let left = left_push (heads_back (length back) s.trail.heads) back (implied back l n) in
      let fewer = left_back s.trail.heads (length es) (length back) (shorter level es) in
      back_less (returns_left s) (returns_left u) (return_weight s) (return_weight u) (steps_left s) (steps_left u) (omega (arith, turns, most, lower, cut, push)) refl (omega (arith, opens, long, calm, left, fewer))

  learnt_less : (n : ℕ) (lits : Clause) (l : Lit) (level : ℕ) (steps : Steps) → turns_left (after_learning n steps lits l level s) ≤ turns_left s → IsAsserting es lits l level → work_left (after_learning n steps lits l level s) < work_left s
  learnt_less n lits l level [] turns a = return_less s.clauses lits l n level turns a
  learnt_less n lits l level (step ∷ steps) turns a = return_less (s.clauses ++ lits ∷ []) lits l (length s.clauses) level turns a

  pub learn_less : (n : ℕ) (t : State) → LearnRow s n t → work_left t < work_left s
  learn_less n t r = subst (λ (u : State). work_left u < work_left s) (sym r.after) (learnt_less n r.lits r.lit r.level r.steps (subst (λ (u : State). turns_left u ≤ turns_left s) r.after (learn_turns p s bounded row n t r)) r.asserting)

  low_cut : level_of (up_to 0 es) ≡ 0
  low_cut = let c = level_cut 0 0 es levels (omega arith) (omega arith) in omega (arith, c)

  pub turn_less : (t : State) → TurnRow s t → work_left t < work_left s
  turn_less t r =
      let u : State = record (back_to 0 s) { free = true } in
      let back = up_to 0 es in
      let turns : turns_left u + 1 ≡ turns_left s = subst (λ (x : State). turns_left x + 1 ≡ turns_left s) r.after (turn_turns p s bounded row t r) in
      let cut = low_cut in
      let opens = open_most u in
      let long = atoms_long s s.bound in
      let calm = quiet_most (list_any (are_false u.trail.entries) u.clauses) in
      let fewer = left_back s.trail.heads (length es) (length back) (shorter 0 es) in
      subst (λ (x : State). work_left x < work_left s) (sym r.after)
      (back_less (returns_left s) (returns_left u) (return_weight s) (return_weight u) (steps_left s) (steps_left u) (omega (arith, turns, cut)) refl (omega (arith, opens, long, calm, fewer)))

  pub raise_less : (k : Known) (t : State) → RaiseRow s k t → work_left t < work_left s
  raise_less k t r =
      let u : State = raised s in
      let back = up_to 0 es in
      let turns : turns_left u + 1 ≡ turns_left s = subst (λ (x : State). turns_left x + 1 ≡ turns_left s) r.after (raise_turns p s bounded row k t r) in
      let one : turns_left s ≡ 1 = ap (λ (b : Bool). cond b 1 (cond (is_fresh s) 0 2)) r.free in
      let cut = low_cut in
      let unknown = less_unknown s u (atoms_fronts (lit true (Atom.Bound (s.bound + 1)) ∷ []) s.held.atoms) refl in
      let opens = open_most u in
      let calm = quiet_most (list_any (are_false u.trail.entries) u.clauses) in
      let fewer = left_back s.trail.heads (length es) (length back) (shorter 0 es) in
      subst (λ (x : State). work_left x < work_left s) (sym r.after)
      (last_less (returns_left s) (returns_left u) (return_weight s) (return_weight u) (steps_left s) (steps_left u) (omega (arith, turns, one, cut)) (omega (arith, one)) (omega (arith, unknown, opens, calm, fewer)))
