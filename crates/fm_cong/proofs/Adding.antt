-- A registered term more: what its flag, its places and the marks say.
use Rattle.std.proofs.Common.{◌≡◌, ℕ, zero, suc, ◌<◌, ◌≤◌, ◌||◌, Bool, true, false, cond, List, [], ◌∷◌, ◌++◌, length, drop, Option, Some, None, inl, inr, refl, sym, subst, ap, ◌∙◌, arith, get_or, get_or-set_same, get_or-set_other}
use Rattle.std.specs.Prelude.{◌==◌, slice_get, slice_set}
use Rattle.std.specs.List.{Contains}
use Rattle.std.proofs.lemmas.Bool.{cases_lt}
use Rattle.std.proofs.lemmas.Bool.Decides.{eqb_tells}
use Rattle.std.proofs.lemmas.List.{length_push}
use Rattle.std.proofs.lemmas.List.Elements.{All-contains, All-weaker}
use Rattle.fm_bank.specs.Closure.{Shape, object, shape_at}
use Rattle.fm_bank.specs.Terms.{Term}
use Rattle.fm_cong.specs.Faithful.{AreMarks, IsFaithful, held_in}
use Rattle.fm_cong.specs.Graphs.{cells_of}
use Rattle.fm_cong.specs.Growth.{AreBelow, AreFlags, HasMoreUses, HasPlace, SayTheSame, is_flagged}
use Rattle.fm_cong.specs.Held.{HasArguments, Held, IsRegistered, IsSettled, Registers, is_registered}
use Rattle.fm_cong.specs.Levels.{IsSteady, KeepsAll, KeepsMarks, cells_at}
use Rattle.fm_cong.specs.States.{count_of}
use Rattle.fm_cong.specs.Tables.{AreUses, IsKnown, uses_at}
use Rattle.fm_cong.specs.declared.egraph.Egraph.TheInside.{Inside}
use Rattle.fm_cong.specs.declared.mark.Mark.{Mark}
use Rattle.fm_cong.specs.declared.state.State.{State}
use Rattle.fm_cong.proofs.Holding.{marks_kept, registered_node}
use Rattle.fm_cong.proofs.Keeping.{atoms_more, atoms_same}
use Rattle.fm_cong.proofs.Merging.{restored_length}
use Rattle.fm_cong.proofs.Registering.{kept_with}

pub uses_more : (shapes : List Shape) (us vs : List (List ℕ)) → HasMoreUses us vs → AreUses shapes us → AreUses shapes vs
uses_more shapes us vs more h i s t at on = more (object t) i (h i s t at on)

get_left : {X : Type 0} → (xs : List X) (x : X) (i : ℕ) → i < length xs → slice_get (xs ++ x ∷ []) i ≡ slice_get xs i
get_left [] x i lt = absurd (omega (arith, lt))
get_left (y ∷ xs) x zero lt = refl
get_left (y ∷ xs) x (suc i) lt = get_left xs x i (omega (arith, lt))

get_last : {X : Type 0} → (xs : List X) (x y : X) (i : ℕ) → length xs ≤ i → slice_get (xs ++ x ∷ []) i ≡ Some y → (i ≡ length xs) × (x ≡ y)
get_last [] x y zero le h = (refl, same x y h)
  where
    same : {X : Type 0} → (x y : X) → Some x ≡ Some y → x ≡ y
    same x y h = cc
get_last [] x y (suc i) le h = absurd (no_some y h)
  where
    no_some : {X : Type 0} → (y : X) → None ≡ Some y → ⊥
    no_some y h = cc
get_last (z ∷ xs) x y zero le h = absurd (omega (arith, le))
get_last (z ∷ xs) x y (suc i) le h = let r = get_last xs x y i (omega (arith, le)) h in (ap suc r.0, r.1)

pub uses_with : (shapes : List Shape) (s : Shape) (us : List (List ℕ)) → AreUses shapes us → HasPlace us s.args (length shapes) → AreUses (shapes ++ s ∷ []) us
uses_with shapes s us h place i t arg at on =
    elim (cases_lt i (length shapes)) [
      | inl lt ↦ h i t arg (sym (get_left shapes s i lt) ∙ at) on
      | inr past ↦
          let r = get_last shapes s t i past at in
          let here = All-contains (λ a. Contains (uses_at us (object a)) (length shapes)) s.args arg place (subst (λ (x : Shape). Contains x.args arg) (sym r.1) on) in
          subst (λ (k : ℕ). Contains (uses_at us (object arg)) k) (sym r.0) here
    ]

-- flags

registered_push : (shapes : List Shape) (s : Shape) (n : ℕ) → is_registered (shapes ++ s ∷ []) n ≡ (is_registered shapes n || (n == s.number))
registered_push [] s n = or_none (n == s.number)
  where
    or_none : (b : Bool) → (b || false) ≡ (false || b)
    or_none true = refl
    or_none false = refl
registered_push (t ∷ shapes) s n = ap (λ b. (n == t.number) || b) (registered_push shapes s n) ∙ or_assoc (n == t.number) (is_registered shapes n) (n == s.number)
  where
    or_assoc : (a b c : Bool) → (a || (b || c)) ≡ ((a || b) || c)
    or_assoc true b c = refl
    or_assoc false b c = refl

or_true : (b : Bool) → (b || true) ≡ true
or_true true = refl
or_true false = refl

or_false : (b : Bool) → (b || false) ≡ b
or_false true = refl
or_false false = refl

pub flags_with : (shapes : List Shape) (s : Shape) (flags : List Bool) → s.number < length flags → AreFlags shapes flags → AreFlags (shapes ++ s ∷ []) (slice_set flags s.number true)
flags_with shapes s flags lt h n =
    elim (eqb_tells n s.number) [
      | inl same ↦
          ap (is_flagged (slice_set flags s.number true)) same.1 ∙ (get_or-set_same flags s.number true false lt ∙ sym (registered_push shapes s n ∙ (ap (λ b. is_registered shapes n || b) same.0 ∙ or_true (is_registered shapes n))))
      | inr other ↦
          get_or-set_other flags s.number n true false other.1 ∙ (h n ∙ sym (registered_push shapes s n ∙ (ap (λ b. is_registered shapes n || b) other.0 ∙ or_false (is_registered shapes n))))
    ]

-- marks

pub marks_with : (shapes : List Shape) (s : Shape) (t : State) (marks : List Mark) → IsKnown (count_of t) s → AreMarks shapes t marks → AreMarks (shapes ++ s ∷ []) t marks
marks_with shapes s t marks known h =
    let long = length_push shapes s in
    let at : (m : Mark) → count_of t ≡ length (cells_at t m).class = λ m. sym (restored_length (drop m.class t.classes.class.log.items) t.classes.class.cells.items) in
    record {
      kept = λ k d lt. kept_with shapes s t (get_or marks k d) (subst (λ (n : ℕ). IsKnown n s) (at (get_or marks k d)) known) (h.low k d lt) (h.kept k d lt);
      low = All-weaker (λ (m : Mark). m.entered ≤ length shapes) (λ (m : Mark). m.entered ≤ length (shapes ++ s ∷ [])) (λ m l. omega (arith, l, long)) marks h.low;
      ordered = h.ordered;
    }

-- an e-graph with the same registered terms and marks, once room is made
pub faithful_room : (g h : Inside) → IsFaithful g → h.members.items ≡ g.members.items → h.marks.items ≡ g.marks.items → KeepsAll g.state h.state → SayTheSame g.flags.items h.flags.items → HasMoreUses g.uses.items h.uses.items → IsFaithful h
faithful_room g h f members marks k same more =
    record {
      steady = subst (λ (ss : List Shape). IsSteady ss (cells_of h.state)) (sym members) (k.steady g.members.items f.steady);
      quiet = k.quiet ∙ f.quiet;
      entered = omega (arith, f.entered, k.entered, ap length members);
      uses = subst (λ (ss : List Shape). AreUses ss h.uses.items) (sym members) (uses_more g.members.items g.uses.items h.uses.items more f.uses);
      flags = subst (λ (ss : List Shape). AreFlags ss h.flags.items) (sym members) (λ n. same n ∙ f.flags n);
      objects = omega (arith, f.objects, k.nodes);
      atoms = atoms_more (count_of g.state) (count_of h.state) g.state.facts.items h.state.facts.items k.nodes k.facts f.atoms;
      marks = subst (λ (ss : List Shape). AreMarks ss h.state h.marks.items) (sym members) (subst (λ (ms : List Mark). AreMarks g.members.items h.state ms) (sym marks) (marks_kept g.members.items g.state h.state g.marks.items k.marks f.marks));
    }

-- and once the term is registered, with its flag set
pub faithful_added : (g h : Inside) (s : Shape) → IsFaithful g → h.members.items ≡ g.members.items ++ s ∷ [] → h.marks.items ≡ g.marks.items → IsSteady h.members.items (cells_of h.state) → h.state.waiting.items ≡ [] → h.state.entered ≤ length h.members.items → KeepsMarks g.state h.state → count_of h.state ≡ count_of g.state → h.state.facts.items ≡ g.state.facts.items → IsKnown (count_of g.state) s → AreUses (g.members.items ++ s ∷ []) h.uses.items → s.number < length g.flags.items → h.flags.items ≡ slice_set g.flags.items s.number true → IsFaithful h
faithful_added g h s f members marks steady quiet entered keeps nodes facts known uses lt flags =
    let now = marks_kept g.members.items g.state h.state g.marks.items keeps f.marks in
    let with_it = marks_with g.members.items s h.state g.marks.items (subst (λ (n : ℕ). IsKnown n s) (sym nodes) known) now in
    record {
      steady = steady;
      quiet = quiet;
      entered = entered;
      uses = subst (λ (ss : List Shape). AreUses ss h.uses.items) (sym members) uses;
      flags = subst (λ (ss : List Shape). AreFlags ss h.flags.items) (sym members) (subst (AreFlags (g.members.items ++ s ∷ [])) (sym flags) (flags_with g.members.items s g.flags.items lt f.flags));
      objects = omega (arith, f.objects, nodes);
      atoms = atoms_same (count_of g.state) (count_of h.state) g.state.facts.items h.state.facts.items nodes facts f.atoms;
      marks = subst (λ (ss : List Shape). AreMarks ss h.state h.marks.items) (sym members) (subst (λ (ms : List Mark). AreMarks (g.members.items ++ s ∷ []) h.state ms) (sym marks) with_it);
    }

-- a term that is registered already
pub registers_none : (h : Held) (terms : List Term) (n : ℕ) → IsRegistered h.shapes n → Registers h h terms n
registers_none h terms n r = record { shapes = sym (ap (λ b. cond b h.shapes (h.shapes ++ shape_at n (slice_get terms n))) r); facts = refl; levels = refl; settled = λ e. e }

-- one that isn't
pub registers_one : (old new : Held) (terms : List Term) (n : ℕ) (s : Shape) → is_registered old.shapes n ≡ false → shape_at n (slice_get terms n) ≡ s ∷ [] → new.shapes ≡ old.shapes ++ s ∷ [] → new.facts ≡ old.facts → new.levels ≡ old.levels → (IsSettled old → IsSettled new) → Registers old new terms n
registers_one old new terms n s r is shapes facts levels settled =
    record {
      shapes = shapes ∙ (ap (λ ss. old.shapes ++ ss) (sym is) ∙ sym (ap (λ b. cond b old.shapes (old.shapes ++ shape_at n (slice_get terms n))) r));
      facts = facts;
      levels = levels;
      settled = settled;
    }

-- the nodes of the arguments of a term whose arguments are registered
pub args_below : (g : Inside) (h : Held) (terms : List Term) (n : ℕ) (s : Shape) → IsFaithful g → held_in g ≡ h → HasArguments h.shapes terms n → shape_at n (slice_get terms n) ≡ s ∷ [] → AreBelow (count_of g.state) s.args
args_below g h terms n s f view has is = by_term (slice_get terms n) refl is
  where
    by_term : (o : Option Term) → slice_get terms n ≡ o → shape_at n o ≡ s ∷ [] → AreBelow (count_of g.state) s.args
    by_term None e k = absurd (nil_cons s k)
      where
        nil_cons : (s : Shape) → [] ≡ s ∷ [] → ⊥
        nil_cons s k = cc
    by_term (Some t) e k =
        let same : t.args ≡ s.args = ap args_of k in
        let all = has t e in
        subst (AreBelow (count_of g.state)) same (All-weaker (IsRegistered h.shapes) (λ a. object a < count_of g.state) (λ a r. registered_node g.members.items (count_of g.state) a f.steady.working.known (subst (λ (x : Held). IsRegistered x.shapes a) (sym view) r)) t.args all)
      where
        args_of : List Shape → List ℕ
        args_of [] = []
        args_of (x ∷ xs) = x.args

pub number_is : (terms : List Term) (n : ℕ) (s : Shape) → shape_at n (slice_get terms n) ≡ s ∷ [] → s.number ≡ n
number_is terms n s is = by_term (slice_get terms n) is
  where
    number_of : List Shape → ℕ
    number_of [] = n
    number_of (x ∷ xs) = x.number

    by_term : (o : Option Term) → shape_at n o ≡ s ∷ [] → s.number ≡ n
    by_term None k = sym (ap number_of k)
    by_term (Some t) k = sym (ap number_of k)

-- another state in its place, with as many registered terms
pub faithful_same : (g h : Inside) → IsFaithful g → h.members.items ≡ g.members.items → h.marks.items ≡ g.marks.items → h.flags.items ≡ g.flags.items → h.uses.items ≡ g.uses.items → IsSteady h.members.items (cells_of h.state) → h.state.waiting.items ≡ [] → h.state.entered ≤ length h.members.items → KeepsMarks g.state h.state → count_of h.state ≡ count_of g.state → h.state.facts.items ≡ g.state.facts.items → IsFaithful h
faithful_same g h f members marks flags uses steady quiet entered keeps nodes facts =
    record {
      steady = steady;
      quiet = quiet;
      entered = entered;
      uses = subst (λ (ss : List Shape). AreUses ss h.uses.items) (sym members) (subst (AreUses g.members.items) (sym uses) f.uses);
      flags = subst (λ (ss : List Shape). AreFlags ss h.flags.items) (sym members) (subst (AreFlags g.members.items) (sym flags) f.flags);
      objects = omega (arith, f.objects, nodes);
      atoms = atoms_same (count_of g.state) (count_of h.state) g.state.facts.items h.state.facts.items nodes facts f.atoms;
      marks = subst (λ (ss : List Shape). AreMarks ss h.state h.marks.items) (sym members) (subst (λ (ms : List Mark). AreMarks g.members.items h.state ms) (sym marks) (marks_kept g.members.items g.state h.state g.marks.items keeps f.marks));
    }
