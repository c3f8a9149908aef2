-- A bound that has no value and stands in no clause stays so until it is decided; so Turn and Raise come at most once each.
use Rattle.std.proofs.Common.{◌≡◌, ◌≢◌, ℕ, ◌+◌, ◌-◌, ◌≤◌, ◌==◌, ◌||◌, Bool, true, false, not, cond, nat_lt, List, [], ◌∷◌, ◌++◌, length, map, Some, None, inl, inr, refl, sym, ap, subst, ◌∙◌, arith}
use Rattle.std.specs.Prelude.{Option, option_and_then, slice_get}
use Rattle.std.specs.List.{flat_map, list_all, list_any}
use Rattle.std.proofs.lemmas.Bool.{and_from, and_parts, cases_Bool, cases_lt, eq-eqb, false≢true, ne_eqb, not-true, true≢false}
use Rattle.fm_base.specs.Resolution.{Has}
use Rattle.fm_base.specs.declared.ids.AtomId.{AtomId}
use Rattle.fm_base.specs.declared.ids.Lit.{Lit}
use Rattle.fm_base.specs.declared.ids.Reader.{Reader}
use Rattle.fm_base.proofs.Resolution.{mapped_has}
use Rattle.fm_bank.specs.Instances.{equality}
use Rattle.fm_bank.specs.Interning.{IsFront, atom_number, find_atom, is_same_atom, lit_in, with_atom, with_atoms}
use Rattle.fm_bank.specs.declared.atom.Atom.{Atom}
use Rattle.fm_bank.specs.declared.literal.Literal.{Literal}
use Rattle.fm_bank.proofs.Atoms.{is_same_atom-refl}
use Rattle.fm_bank.proofs.Growing.{atoms_fronts, front-refl}
use Rattle.fm_bank.proofs.Places.{place_new}
use Rattle.fm_sat.specs.Learning.{IsConflict, Steps}
use Rattle.fm_sat.proofs.Explaining.{unit_reason}
use Rattle.fm_trail.specs.declared.entry.Entry.{Entry}
use Rattle.fm_trail.specs.Trail.{implied, is_none, is_value, level_of, up_to}
use Rattle.fm_trail.proofs.Going.{level_most, level_on_most}
use Rattle.fm_trail.proofs.Places.{get_push, place_none, value_none}
use Rattle.fm_steps.specs.Bounds.{SizesAreInRow}
use Rattle.fm_steps.specs.Content.{is_size}
use Rattle.fm_steps.specs.Facts.{AtomsAreKnown, TrailIsExplained, is_size_in}
use Rattle.fm_steps.specs.Lemmas.{Due, FalseOrUnit, IsDue, IsUnitLemma, are_known, is_known, is_some_number, literal_fails}
use Rattle.fm_steps.specs.Picks.{Known, Settles, pair_literals, pick_literals}
use Rattle.fm_steps.specs.Offered.{raised}
use Rattle.fm_steps.specs.Progress.{has_atom, is_fresh, turns_left}
use Rattle.fm_steps.specs.Rows.{ImplyRow, LearnRow, LemmaRow, RaiseRow, SplitRow, TakeRow, TurnRow, UnitRow, after_learning}
use Rattle.fm_steps.specs.Sizes.{card, holds, is_refuted, is_unvalued, lit}
use Rattle.fm_steps.specs.State.{Clause, Problem, State, know, put, value_by, with_literals}
use Rattle.fm_steps.proofs.Bounded.{IsBounded, entry_by, first_at, found_at, refuted_false}
use Rattle.fm_steps.proofs.Due.{known_has}
use Rattle.fm_steps.proofs.Guarded.{read_ground, value_ground}
use Rattle.fm_steps.proofs.InRow.{no_bound, pairs_plain}
use Rattle.fm_steps.proofs.Lists.{Has-append, Has-get, only_one}
use Rattle.fm_steps.proofs.Numbers.{any_known, get_place, known_any, known_one, with_all_known}
use Rattle.fm_steps.proofs.Offered.{any_false, found_number, true_parts}
use Rattle.fm_steps.proofs.Staying.{number_kept}
use Rattle.fm_steps.proofs.Trails.{no_value, none_by_number, none_past, over_back, value_by_number}
use Rattle.fm_steps.proofs.Written.{has_place}

-- the number of the present bound; fresh, as a record
abbrev pub bound_number : State → ℕ
bound_number s = atom_number s.held.atoms (Atom.Bound s.bound)

pub record IsFresh (s : State) : Type 0 where
  pub unset : value_by s.trail.entries (bound_number s) ≡ None
  pub nowhere : (c : Clause) (l : Lit) → Has s.clauses c → Has c l → l.atom.0 ≢ bound_number s

pub none_any : {X : Type 0} (p : X → Bool) (xs : List X) → ((x : X) → Has xs x → p x ≡ false) → list_any p xs ≡ false
none_any p [] h = refl
none_any p (x ∷ xs) h = or_none (p x) (list_any p xs) (h x (inl refl)) (none_any p xs (λ y q. h y (inr q)))
  where
    or_none : (a b : Bool) → a ≡ false → b ≡ false → (a || b) ≡ false
    or_none true b e f = e
    or_none false b e f = f

fresh_parts : (s : State) → AtomsAreKnown s → is_fresh s ≡ true → IsFresh s
fresh_parts s known h =
    let n = bound_number s in
    let parts = and_parts (is_unvalued s (Atom.Bound s.bound)) (not (list_any (has_atom n) s.clauses)) h in
    record {
      unset = none_by_number s.trail.entries s.held.atoms (Atom.Bound s.bound) known.trail parts.0;
      nowhere = λ c l hc hl same.
          let none = any_false (has_atom n) s.clauses c (not-true (list_any (has_atom n) s.clauses) parts.1) hc in
          true≢false (sym (eq-eqb l.atom.0 n same) ∙ any_false (λ (k : Lit). k.atom.0 == n) c l none hl);
    }

unset_step : (f : ℕ → Option Bool) (b : Bool) (n : ℕ) → f n ≡ None → is_none (option_and_then f (cond b (Some n) None)) ≡ true
unset_step f true n e = ap is_none e
unset_step f false n e = refl

fresh_from : (s : State) → IsFresh s → is_fresh s ≡ true
fresh_from s h =
    let n = bound_number s in
    let unset = unset_step (value_by s.trail.entries) (nat_lt n (length s.held.atoms)) n h.unset in
    let none = none_any (has_atom n) s.clauses (λ c hc. none_any (λ (k : Lit). k.atom.0 == n) c (λ l hl. ne_eqb l.atom.0 n (h.nowhere c l hc hl))) in
    and_from (is_unvalued s (Atom.Bound s.bound)) (not (list_any (has_atom n) s.clauses)) unset (ap not none)

-- what is left of Turn and Raise
left_step : (f g x y : Bool) → g ≡ f → (f ≡ false → x ≡ true → y ≡ true) → cond g 1 (cond y 0 2) ≤ cond f 1 (cond x 0 2)
left_step true true x y e h = omega arith
left_step true false x y e h = absurd (false≢true e)
left_step false true x y e h = absurd (false≢true (sym e))
left_step false false true true e h = omega arith
left_step false false true false e h = absurd (false≢true (h refl refl))
left_step false false false true e h = omega arith
left_step false false false false e h = omega arith

turns_kept : (s t : State) → AtomsAreKnown s → t.free ≡ s.free → (s.free ≡ false → IsFresh s → IsFresh t) → turns_left t ≤ turns_left s
turns_kept s t known e h = left_step s.free t.free (is_fresh s) (is_fresh t) e (λ f x. fresh_from t (h f (fresh_parts s known x)))

turn_step : (f x : Bool) → f ≡ false → x ≡ false → ◌≡◌ {A = ℕ} (cond f 1 (cond x 0 2)) 2
turn_step true x e h = absurd (false≢true (sym e))
turn_step false true e h = absurd (false≢true (sym h))
turn_step false false e h = refl

turns_two : (s : State) → AtomsAreKnown s → s.free ≡ false → (IsFresh s → ⊥) → turns_left s ≡ 2
turns_two s known f h =
    elim (cases_Bool (is_fresh s)) [
      | inl t ↦ absurd (h (fresh_parts s known t))
      | inr e ↦ turn_step s.free (is_fresh s) f e
    ]

turns_none : (s : State) → s.free ≡ false → IsFresh s → turns_left s ≡ 0
turns_none s f h = ap (λ (b : Bool). cond b 1 (cond (is_fresh s) 0 2)) f ∙ ap (λ (b : Bool). cond b 0 2) (fresh_from s h)

-- one entry more, of another atom
pub unset_push : (es : List Entry) (e : Entry) (n : ℕ) → value_by es n ≡ None → e.lit.atom.0 ≢ n → value_by (es ++ e ∷ []) n ≡ None
unset_push es e n none other =
    let a : AtomId = record { 0 = n } in
    no_value (es ++ e ∷ []) a (λ q f at same. elim (get_push es e q f at) [
      | inl old ↦ place_none es a (value_none es a none) q f old same
      | inr new ↦ other (ap (λ (x : Entry). x.lit.atom.0) new.1 ∙ same)
    ])

-- a fresh bound stays fresh where clauses and entries that come are of other atoms
pub fresh_on : (s t : State) → t.bound ≡ s.bound → is_known s (Atom.Bound s.bound) ≡ true → IsFront s.held.atoms t.held.atoms → value_by t.trail.entries (bound_number s) ≡ None
    → ((c : Clause) (l : Lit) → Has t.clauses c → Has c l → l.atom.0 ≢ bound_number s) → IsFresh t
fresh_on s t e known f unset nowhere =
    let same : bound_number t ≡ bound_number s = ap (λ n. atom_number t.held.atoms (Atom.Bound n)) e ∙ number_kept s t (Atom.Bound s.bound) f known in
    record {
      unset = ap (value_by t.trail.entries) same ∙ unset;
      nowhere = λ c l hc hl here. nowhere c l hc hl (here ∙ same);
    }

-- more atoms change nothing
fresh_settled : (mid t : State) → is_known mid (Atom.Bound mid.bound) ≡ true → Settles mid t → IsFresh mid → IsFresh t
fresh_settled mid t known m h = subst IsFresh (sym m.after) (fresh_on mid (record mid { held = record mid.held { atoms = with_atoms mid.held.atoms (flat_map pick_literals m.picks) }; picks = m.picks }) refl known (atoms_fronts (flat_map pick_literals m.picks) mid.held.atoms) h.unset h.nowhere)

pub settled_turns : (mid t : State) → AtomsAreKnown mid → is_known mid (Atom.Bound mid.bound) ≡ true → Settles mid t → turns_left t ≤ turns_left mid
settled_turns mid t atoms known m = turns_kept mid t atoms (ap (λ (u : State). u.free) m.after) (λ free h. fresh_settled mid t known m h)

-- a new clause of literals by number
clause_other : (cs : List Clause) (new : Clause) (n : ℕ) → ((c : Clause) (l : Lit) → Has cs c → Has c l → l.atom.0 ≢ n) → ((l : Lit) → Has new l → l.atom.0 ≢ n) → (c : Clause) (l : Lit) → Has (cs ++ new ∷ []) c → Has c l → l.atom.0 ≢ n
clause_other cs new n old fresh c l hc hl =
    elim (Has-append cs (new ∷ []) c hc) [
      | inl q ↦ old c l q hl
      | inr q ↦ fresh l (subst (λ (d : Clause). Has d l) (sym (only_one new c q)) hl)
    ]

-- one number, one atom
one_number : (atoms : List Atom) (a b : Atom) → is_some_number (find_atom atoms a) ≡ true → is_some_number (find_atom atoms b) ≡ true → atom_number atoms a ≡ atom_number atoms b → a ≡ b
one_number atoms a b ka kb same =
    let pa = get_place atoms a (known_any atoms a ka) in
    let pb = get_place atoms b (known_any atoms b kb) in
    let q : Some a ≡ Some b = sym pa ∙ (ap (slice_get atoms) same ∙ pb) in
    cc q

module _ (p : Problem) (s : State) (bounded : IsBounded p s) (row : SizesAreInRow p s) where
  abbrev es : List Entry
  es = s.trail.entries

  abbrev explained : TrailIsExplained s
  explained = bounded.good.lawful.trail

  bound_known : is_known s (Atom.Bound s.bound) ≡ true
  bound_known = let l = row.least in (row.bounds s.bound).1 (omega (arith, l), omega arith)

  -- where the bound is fresh no decision stands
  one_found : (b : Bool) (n m : ℕ) → cond b (Some n) None ≡ Some m → n ≡ m
  one_found true n m e = cc e
  one_found false n m e = absurd (cc e)

  pub fresh_low : s.free ≡ false → IsFresh s → level_of es ≡ 0
  fresh_low free h =
      elim (cases_lt 0 (level_of es)) [
        | inl above ↦ (let g = first_at 0 es explained.levels above in
            let one = g.4 in
            let level : g.1.level ≡ 1 = omega (arith, one) in
            let found = (bounded.first free g.0 g.1 g.2 g.3 level).1 in
            let same : bound_number s ≡ g.1.lit.atom.0 = one_found (nat_lt (bound_number s) (length s.held.atoms)) (bound_number s) g.1.lit.atom.0 found in
            let a : AtomId = record { 0 = bound_number s } in
            absurd (place_none es a (value_none es a h.unset) g.0 g.1 g.2 (sym same)))
        | inr low ↦ omega (arith, low)
      ]

  -- and no size atom is true
  none_true : level_of es ≡ 0 → (a : Atom) → is_size a ≡ true → holds s true a ≡ true → ⊥
  none_true low a size h =
      let w = true_parts s a (find_atom s.held.atoms a) refl h in
      let d = entry_by es w.0 true w.2 in
      let at : is_size_in (slice_get s.held.atoms d.entry.lit.atom.0) ≡ true = ap is_size_in (ap (slice_get s.held.atoms) d.atom ∙ found_at s.held.atoms a w.0 w.1) ∙ size in
      let above = (bounded.good.sizes d.place d.entry d.at at d.sign).0 in
      let most = level_most 0 es d.place d.entry explained.levels d.at in
      omega (arith, above, most, low)

  -- a value of a fresh bound there is not
  no_value_of : (v : Bool) → IsFresh s → holds s v (Atom.Bound s.bound) ≡ true → ⊥
  no_value_of v h q =
      let e = value_by_number es s.held.atoms (Atom.Bound s.bound) v q in
      false≢true (ap (λ (o : Option Bool). is_value o v) (sym h.unset) ∙ e)

  other : (a : Atom) → is_size a ≡ false → a ≡ Atom.Bound s.bound → ⊥
  other a e same = false≢true (sym e ∙ ap is_size same)

  -- an order lemma of bounds isn't due
  abbrev first : ℕ → Literal
  first n = lit false (Atom.Bound n)

  abbrev second : ℕ → Literal
  second n = lit true (Atom.Bound (n + 1))

  abbrev order : ℕ → List Literal
  order n = first n ∷ (second n ∷ [])

  module _ (n : ℕ) (low : level_of es ≡ 0) (fresh : IsFresh s) (known : are_known s (order n) ≡ true) (l : Literal) (has : Has (order n) l) (same : l.atom ≡ Atom.Bound s.bound) where
    within : n + 1 ≤ s.bound
    within = ((row.bounds (n + 1)).0 (known_one s.held.atoms (order n) (second n) (inr (inl refl)) known)).1

    fails : literal_fails s (first n) ≡ true → ⊥
    fails q = none_true low (Atom.Bound n) refl q

    -- the second literal is of the bound, and isn't false
    second_fails : literal_fails s (second n) ≡ true → Has (order n) l → ⊥
    second_fails q (inl e) = let number : Atom.Bound n ≡ Atom.Bound s.bound = ap (λ (x : Literal). x.atom) e ∙ same in let is : n ≡ s.bound = cc number in let le = within in omega (arith, is, le)
    second_fails q (inr r) =
        let number : Atom.Bound (n + 1) ≡ Atom.Bound s.bound = ap (λ (x : Literal). x.atom) (only_one (second n) l r) ∙ same in
        no_value_of false fresh (subst (λ (a : Atom). holds s false a ≡ true) number q)

    by_place : (k : Literal) → IsUnitLemma s (order n) k → Has (order n) k → ⊥
    by_place k u (inl e) = second_fails (u.others (second n) (inr (inl refl)) (λ q. true≢false (ap (λ (x : Literal). x.positive) (q ∙ sym e)))) has
    by_place k u (inr r) = fails (u.others (first n) (inl refl) (λ q. false≢true (ap (λ (x : Literal). x.positive) (q ∙ sym (only_one (second n) k r)))))

    order_fails : FalseOrUnit s (order n) → ⊥
    order_fails asks =
        elim asks [
          | inl f ↦ fails (and_parts (literal_fails s (first n)) (list_all (literal_fails s) (second n ∷ [])) f).0
          | inr u ↦ by_place u.0 u.1 u.1.has
        ]

  -- a lemma that is due has no fresh bound
  pub due_other : (k : Known) (r : Reader) (d : Due) (ls : List Literal) → s.free ≡ false → IsFresh s → IsDue s k r d ls → (l : Literal) → Has ls l → l.atom ≡ Atom.Bound s.bound → ⊥
  due_other k Reader.Congruence Due.Clash ls free h q l has same = other l.atom (read_ground s.held.atoms _ l (q.read l has)) same
  due_other k Reader.Congruence (Due.Value a v) ls free h q l has same = other l.atom (value_ground s.held.atoms _ k.congruence a v l q.decided (q.read l has)) same
  due_other k Reader.Regions (Due.Clique u) ls free h q l has same = by_place (subst (λ (x : List Literal). Has x l) q.is has)
    where
      by_place : Has (lit false (card u (length q.pick.terms - 1)) ∷ pair_literals q.pick.terms) l → ⊥
      by_place (inl e) = no_bound u (length q.pick.terms - 1) s.bound (ap (λ (x : Literal). x.atom) e ∙ same)
      by_place (inr m) = other l.atom (pairs_plain q.pick.terms l m) same
  due_other k Reader.Sum Due.SumBound ls free h q l has same = no_value_of true h (and_parts _ (holds s true (Atom.Bound s.bound)) q.due).1
  due_other k Reader.Sum (Due.CardOrder u j) ls free h q l has same = by_place (subst (λ (x : List Literal). Has x l) q.is has)
    where
      by_place : Has (lit false (card u j) ∷ (lit true (card u (j + 1)) ∷ [])) l → ⊥
      by_place (inl e) = no_bound u j s.bound (ap (λ (x : Literal). x.atom) e ∙ same)
      by_place (inr m) = no_bound u (j + 1) s.bound (ap (λ (x : Literal). x.atom) (only_one (lit true (card u (j + 1))) l m) ∙ same)
  due_other k Reader.Sum (Due.BoundOrder n) ls free h q l has same = order_fails n (fresh_low free h) h (subst (λ (x : List Literal). are_known s x ≡ true) q.is q.known) l (subst (λ (x : List Literal). Has x l) q.is has) same (subst (FalseOrUnit s) q.is q.asks)
  due_other k r d ls free h q l has same = absurd q

  -- nor do its numbers
  literal_other : (ls : List Literal) → are_known s ls ≡ true → ((l : Literal) → Has ls l → l.atom ≡ Atom.Bound s.bound → ⊥) → (m : Literal) → Has ls m → atom_number s.held.atoms m.atom ≢ bound_number s
  literal_other ls known none m has same = none m has (one_number s.held.atoms m.atom (Atom.Bound s.bound) (known_one s.held.atoms ls m has known) bound_known same)

  lemma_other : (ls : List Literal) → are_known s ls ≡ true → ((l : Literal) → Has ls l → l.atom ≡ Atom.Bound s.bound → ⊥) → (l : Lit) → Has (map (lit_in (with_atoms s.held.atoms ls)) ls) l → l.atom.0 ≢ bound_number s
  lemma_other ls known none l has same =
      let now = with_atoms s.held.atoms ls in
      let w = mapped_has (lit_in now) ls l has in
      let number : atom_number now w.lit.atom ≡ atom_number s.held.atoms w.lit.atom = ap (λ (as' : List Atom). atom_number as' w.lit.atom) (with_all_known s.held.atoms ls known) in
      literal_other ls known none w.lit w.has (sym number ∙ (ap (λ (x : Lit). x.atom.0) w.is ∙ same))

  -- the events that leave it fresh
  fresh_unit : (n : ℕ) (t : State) → IsFresh s → UnitRow s n t → IsFresh t
  fresh_unit n t h r =
      let u = (unit_reason s.clauses es n r.lit r.unit).0 in
      subst IsFresh (sym r.after) (fresh_on s (put r.lit n s) refl bound_known (front-refl s.held.atoms) (unset_push es (implied es r.lit n) (bound_number s) h.unset (h.nowhere u.clause r.lit (Has-get s.clauses n u.clause u.stored) u.has)) h.nowhere)

  fresh_take : (e : Reader) (t : State) → IsFresh s → TakeRow s e t → IsFresh t
  fresh_take e t h r = subst IsFresh (sym r.after) (record { unset = h.unset; nowhere = h.nowhere })

  fresh_lemma : (k : Known) (e : Reader) (d : Due) (t : State) → s.free ≡ false → IsFresh s → LemmaRow s k e d t → IsFresh t
  fresh_lemma k e d t free h r =
      let new = lemma_other r.lits r.known (due_other k e d r.lits free h r.due) in
      subst IsFresh (sym r.after) (fresh_on s (with_literals r.lits s) refl bound_known (atoms_fronts r.lits s.held.atoms) h.unset (clause_other s.clauses _ (bound_number s) h.nowhere new))

  fresh_imply : (k : Known) (e : Reader) (d : Due) (t : State) → s.free ≡ false → IsFresh s → ImplyRow s k e d t → IsFresh t
  fresh_imply k e d t free h r =
      let none = due_other k e d r.lits free h r.due in
      let l : Lit = lit_in s.held.atoms r.lit in
      let unset = unset_push es (implied es l (length s.clauses)) (bound_number s) h.unset (literal_other r.lits r.known none r.lit r.unit.has) in
      subst IsFresh (sym r.after) (fresh_on s (put l (length s.clauses) (with_literals r.lits s)) refl bound_known (atoms_fronts r.lits s.held.atoms) unset (clause_other s.clauses _ (bound_number s) h.nowhere (lemma_other r.lits r.known none)))

  fresh_split : (k : Known) (a c : ℕ) (t : State) → IsFresh s → SplitRow s k a c t → IsFresh t
  fresh_split k a c t h r = subst IsFresh (sym r.after) (fresh_on s (know (equality a c) s) refl bound_known (atoms_fronts (lit true (equality a c) ∷ []) s.held.atoms) h.unset h.nowhere)

  -- and those that find it not fresh, or make it so
  learn_finds : (n : ℕ) → s.free ≡ false → IsFresh s → IsConflict s.clauses es n → ⊥
  learn_finds n free h c =
      let above = c.above.2 in
      let most = level_on_most 0 es c.above.0 explained.levels in
      let low = fresh_low free h in
      omega (arith, above, most, low)

  turn_finds : is_refuted s (Atom.Bound s.bound) ≡ true → IsFresh s → ⊥
  turn_finds r h =
      let found = found_number s.held.atoms (Atom.Bound s.bound) (known_has s (Atom.Bound s.bound) bound_known) in
      let f = refuted_false s (Atom.Bound s.bound) (bound_number s) explained found r in
      false≢true (ap (λ (o : Option Bool). is_value o false) (sym h.unset) ∙ f)

  abbrev next : Atom
  next = Atom.Bound (s.bound + 1)

  next_new : list_any (is_same_atom next) s.held.atoms ≡ false
  next_new =
      elim (cases_Bool (list_any (is_same_atom next) s.held.atoms)) [
        | inl t ↦ (let le = ((row.bounds (s.bound + 1)).0 (any_known s.held.atoms next t)).1 in absurd (omega (arith, le)))
        | inr f ↦ f
      ]

  next_number : atom_number (with_atom s.held.atoms next) next ≡ length s.held.atoms
  next_number = ap (λ (b : Bool). atom_number (cond b s.held.atoms (s.held.atoms ++ next ∷ [])) next) next_new ∙ place_new (is_same_atom next) s.held.atoms next [] next_new (is_same_atom-refl next)

  raise_makes : IsFresh (raised s)
  raise_makes =
      let known = bounded.good.lawful.atoms in
      let past = none_past (length s.held.atoms) (up_to 0 es) (record { 0 = length s.held.atoms }) (over_back (length s.held.atoms) es 0 explained.levels known.trail) (omega arith) in
      record {
        unset = ap (value_by (up_to 0 es)) next_number ∙ past;
        nowhere = λ c l hc hl same.
            let at = has_place s.clauses c hc in
            let lt = known.clauses at.0 c l at.1 hl in
            let n : l.atom.0 ≡ length s.held.atoms = same ∙ next_number in
            omega (arith, lt, n);
      }

  -- so each event leaves as many of Turn and Raise, less itself
  abbrev atoms : AtomsAreKnown s
  atoms = bounded.good.lawful.atoms

  pub unit_turns : (n : ℕ) (t : State) → UnitRow s n t → turns_left t ≤ turns_left s
  unit_turns n t r = turns_kept s t atoms (ap (λ (u : State). u.free) r.after) (λ free h. fresh_unit n t h r)

  pub take_turns : (e : Reader) (t : State) → TakeRow s e t → turns_left t ≤ turns_left s
  take_turns e t r = turns_kept s t atoms (ap (λ (u : State). u.free) r.after) (λ free h. fresh_take e t h r)

  pub lemma_turns : (k : Known) (e : Reader) (d : Due) (t : State) → LemmaRow s k e d t → turns_left t ≤ turns_left s
  lemma_turns k e d t r = turns_kept s t atoms (ap (λ (u : State). u.free) r.after) (λ free h. fresh_lemma k e d t free h r)

  pub imply_turns : (k : Known) (e : Reader) (d : Due) (t : State) → ImplyRow s k e d t → turns_left t ≤ turns_left s
  imply_turns k e d t r = turns_kept s t atoms (ap (λ (u : State). u.free) r.after) (λ free h. fresh_imply k e d t free h r)

  pub split_turns : (k : Known) (a c : ℕ) (t : State) → SplitRow s k a c t → turns_left t ≤ turns_left s
  split_turns k a c t r = turns_kept s t atoms (ap (λ (u : State). u.free) r.after) (λ free h. fresh_split k a c t h r)

  learnt_free : (n : ℕ) (lits : Clause) (l : Lit) (level : ℕ) (steps : Steps) → (after_learning n steps lits l level s).free ≡ s.free
  learnt_free n lits l level [] = refl
  learnt_free n lits l level (step ∷ steps) = refl

  pub learn_turns : (n : ℕ) (t : State) → LearnRow s n t → turns_left t ≤ turns_left s
  learn_turns n t r = turns_kept s t atoms (ap (λ (u : State). u.free) r.after ∙ learnt_free n r.lits r.lit r.level r.steps) (λ free h. absurd (learn_finds n free h r.conflict))

  free_one : (u : State) → u.free ≡ true → turns_left u ≡ 1
  free_one u e = ap (λ (b : Bool). cond b 1 (cond (is_fresh u) 0 2)) e

  pub turn_turns : (t : State) → TurnRow s t → turns_left t + 1 ≡ turns_left s
  turn_turns t r =
      let one = free_one t (ap (λ (u : State). u.free) r.after) in
      let two = turns_two s atoms r.bounded (turn_finds r.refuted) in
      omega (arith, one, two)

  pub raise_turns : (k : Known) (t : State) → RaiseRow s k t → turns_left t + 1 ≡ turns_left s
  raise_turns k t r =
      let one = free_one s r.free in
      let none = turns_none (raised s) refl raise_makes in
      let same : turns_left t ≡ turns_left (raised s) = ap turns_left r.after in
      omega (arith, one, none, same)
