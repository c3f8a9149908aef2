-- The tests of a state are chosen by what it knows itself.
use Rattle.std.proofs.Common.{◌≡◌, ℕ, zero, suc, ◌+◌, ◌<◌, Bool, true, false, not, cond, List, [], ◌∷◌, ◌++◌, length, slice_get, Some, inl, inr, refl, sym, ap, subst, ◌∙◌, arith, append-nil}
use Rattle.std.specs.Prelude.{Option, option_and_then}
use Rattle.std.specs.Cmp.{both_ways}
use Rattle.std.specs.List.{filter, flat_map, list_any}
use Rattle.std.proofs.lemmas.Bool.{true≢false}
use Rattle.fm_base.specs.Resolution.{Has}
use Rattle.fm_base.specs.declared.ids.Reader.{Reader}
use Rattle.fm_bank.specs.Closure.{Shape}
use Rattle.fm_bank.specs.Interning.{is_same_atom, with_atom, with_atoms}
use Rattle.fm_bank.specs.Tests.{AreTests, Tests}
use Rattle.fm_bank.specs.declared.atom.Atom.{Atom}
use Rattle.fm_bank.specs.declared.literal.Literal.{Literal}
use Rattle.fm_bank.proofs.Growing.{atoms_fronts}
use Rattle.fm_guide.specs.declared.event.Event.{Event}
use Rattle.fm_trail.specs.declared.entry.Entry.{Entry}
use Rattle.fm_trail.specs.Trail.{AreOver, head_of, is_value}
use Rattle.fm_steps.specs.Content.{AreTestsBy, all_shapes, classes_of, facts_in, is_size, literal_at, literals_of, pairs_in}
use Rattle.fm_steps.specs.Picks.{ArePicks, IsKnown, IsPickAt, Known, Settles, pick_literals, read_literals}
use Rattle.fm_steps.specs.Runs.{IsReached, Run, carried}
use Rattle.fm_steps.specs.Sizes.{holds, least, least_true, number_in, numbers_with, sort}
use Rattle.fm_steps.specs.Start.{first_state}
use Rattle.fm_steps.specs.State.{Budget, Pick, Problem, State, know_all, read_by, value_by}
use Rattle.fm_steps.proofs.InRow.{picks_plain}
use Rattle.fm_steps.proofs.Known.{row_known}
use Rattle.fm_steps.proofs.Lists.{Has-take}
use Rattle.fm_steps.proofs.Numbers.{find_all, get_within}
use Rattle.fm_steps.proofs.Offered.{found_number}
use Rattle.fm_steps.proofs.Running.{IsGood, begun_good, step_good}
use Rattle.fm_steps.proofs.Starts.{first_clean}
use Rattle.fm_steps.proofs.Written.{has_place}

-- tests that decide the same are one
pub tests_same : (shapes : List Shape) (equal unequal : List (ℕ × ℕ)) (t u : Tests) → AreTests shapes equal unequal t → AreTests shapes equal unequal u → t ≡ u
tests_same shapes equal unequal t u a b =
    let same : (x y : ℕ) → t.same x y ≡ u.same x y = λ x y. both_ways (t.same x y) (u.same x y) (λ e. (b.same_is x y).1 ((a.same_is x y).0 e)) (λ e. (a.same_is x y).1 ((b.same_is x y).0 e)) in
    let apart : (x y : ℕ) → t.apart x y ≡ u.apart x y = λ x y. both_ways (t.apart x y) (u.apart x y) (λ e. (b.apart_is x y).1 ((a.apart_is x y).0 e)) (λ e. (a.apart_is x y).1 ((b.apart_is x y).0 e)) in
    λ i. record { same = λ x y. same x y i; apart = λ x y. apart x y i }

flat_same : {X Y : Type 0} (f g : X → List Y) (xs : List X) → ((x : X) → Has xs x → f x ≡ g x) → flat_map f xs ≡ flat_map g xs
flat_same f g [] h = refl
flat_same f g (x ∷ xs) h = let one = h x (inl refl) in let more = flat_same f g xs (λ y q. h y (inr q)) in λ i. one i ++ more i

-- atoms that give nothing
push_plain : (f : Atom → List ℕ) (atoms : List Atom) (a : Atom) → f a ≡ [] → flat_map f (atoms ++ a ∷ []) ≡ flat_map f atoms
push_plain f [] a e = append-nil (f a) ∙ e
push_plain f (x ∷ xs) a e = ap (λ (ns : List ℕ). f x ++ ns) (push_plain f xs a e)

with_step : (f : Atom → List ℕ) (b : Bool) (atoms : List Atom) (a : Atom) → f a ≡ [] → flat_map f (cond b atoms (atoms ++ a ∷ [])) ≡ flat_map f atoms
with_step f true atoms a e = refl
with_step f false atoms a e = push_plain f atoms a e

with_plain : (f : Atom → List ℕ) (ls : List Literal) (atoms : List Atom) → ((l : Literal) → Has ls l → f l.atom ≡ []) → flat_map f (with_atoms atoms ls) ≡ flat_map f atoms
with_plain f [] atoms h = refl
with_plain f (l ∷ ls) atoms h = with_plain f ls (with_atom atoms l.atom) (λ k q. h k (inr q)) ∙ with_step f (list_any (is_same_atom l.atom) atoms) atoms l.atom (h l (inl refl))

no_number : (b : Bool) (u : ℕ) (a : Atom) → is_size a ≡ false → cond b (number_in u a) [] ≡ []
no_number true u (Atom.Equal a b) e = refl
no_number true u (Atom.Pred t) e = refl
no_number true u (Atom.Card r k) e = absurd (true≢false e)
no_number true u (Atom.Bound n) e = absurd (true≢false e)
no_number false u a e = refl

module _ (mid : State) (ls : List Literal) (picks : List (Option Pick)) (over : AreOver (length mid.held.atoms) mid.trail.entries) (plain : (l : Literal) → Has ls l → is_size l.atom ≡ false) where
  abbrev now : State
  now = record (know_all ls mid) { picks = picks }

  -- what was read stays
  entry_same : (e : Entry) → Has mid.trail.entries e → slice_get now.held.atoms e.lit.atom.0 ≡ slice_get mid.held.atoms e.lit.atom.0
  entry_same e h =
      let at = has_place mid.trail.entries e h in
      let front = atoms_fronts ls mid.held.atoms in
      ap (λ (as' : List Atom). slice_get as' e.lit.atom.0) (sym front.1) ∙ get_within mid.held.atoms front.0 e.lit.atom.0 (over at.0 e at.1)

  literals_same : (es : List Entry) → ((e : Entry) → Has es e → Has mid.trail.entries e) → literals_of now.held.atoms es ≡ literals_of mid.held.atoms es
  literals_same es h = flat_same (λ (e : Entry). literal_at e.lit.positive (slice_get now.held.atoms e.lit.atom.0)) (λ (e : Entry). literal_at e.lit.positive (slice_get mid.held.atoms e.lit.atom.0)) es (λ e q. ap (literal_at e.lit.positive) (entry_same e (h e q)))

  read_same : (r : Reader) → read_literals r now ≡ read_literals r mid
  read_same r = ap (filter (λ (l : Literal). not (is_size l.atom))) (literals_same (read_by r mid) (λ e q. Has-take (head_of mid.trail.heads r) mid.trail.entries e q))

  -- and so does the least true bound
  value_same : (v : Bool) (a : Atom) → Has mid.held.atoms a → holds now v a ≡ holds mid v a
  value_same v a h =
      let there = found_number mid.held.atoms a h in
      ap (λ (o : Option ℕ). is_value (option_and_then (value_by mid.trail.entries) o) v) (find_all ls mid.held.atoms a _ there ∙ sym there)

  numbers_same : (v : Bool) (u : ℕ) → numbers_with now v u ≡ numbers_with mid v u
  numbers_same v u =
      with_plain (λ (a : Atom). cond (holds now v a) (number_in u a) []) ls mid.held.atoms (λ l q. no_number (holds now v l.atom) u l.atom (plain l q))
      ∙ flat_same (λ (a : Atom). cond (holds now v a) (number_in u a) []) (λ (a : Atom). cond (holds mid v a) (number_in u a) []) mid.held.atoms (λ a q. ap (λ (b : Bool). cond b (number_in u a) []) (value_same v a q))

  least_same : (u : ℕ) → least_true now u ≡ least_true mid u
  least_same u = ap least (numbers_same true u)

  picks_on : (t : Tests) (v : ℕ) (ps : List (Option Pick)) → ArePicks mid t v ps → ArePicks now t v ps
  picks_on t v [] h = h
  picks_on t v (q ∷ ps) h = (subst (λ (o : Option ℕ). IsPickAt t (classes_of mid.held t (sort v)) o q) (sym (least_same v)) h.0, picks_on t (v + 1) ps h.1)

  picks_now : (known k : Known) → IsKnown mid known → IsKnown now k → ArePicks mid known.regions 0 picks → ArePicks now k.regions 0 picks
  picks_now known k was is h =
      let here : AreTestsBy mid.held (read_literals Reader.Regions mid) k.regions = subst (λ (rs : List Literal). AreTestsBy mid.held rs k.regions) (read_same Reader.Regions) is.regions in
      let read = read_literals Reader.Regions mid in
      let one : known.regions ≡ k.regions = tests_same (all_shapes mid.held) (facts_in read) (pairs_in false read) known.regions k.regions was.regions here in
      subst (λ (t : Tests). ArePicks now t 0 picks) one (picks_on known.regions 0 picks h)

abbrev pub AreChosen : State → Type 0
AreChosen s = (k : Known) → IsKnown s k → ArePicks s k.regions 0 s.picks

settled_chosen : (mid t : State) → AreOver (length mid.held.atoms) mid.trail.entries → Settles mid t → AreChosen t
settled_chosen mid t over m =
    subst AreChosen (sym m.after) (λ k is. picks_now mid (flat_map pick_literals m.picks) m.picks over (picks_plain m.picks) m.known k m.is_known is m.are_picks)

run_chosen : (p : Problem) (b : Budget) (s : State) (es : List Event) (t : State) → IsGood p s → AreChosen s → Run p b s es t → AreChosen t
run_chosen p b s [] t good h r = subst AreChosen (sym r) h
run_chosen p b s (e ∷ es) t good h r =
    let m = r.1.move in
    let over = (row_known p b s r.1.known (carried b s r.1.offer) m.mid good.lawful.atoms good.lawful.trail m.row).trail in
    run_chosen p b r.0 es t (step_good p b s e r.0 good r.1) (settled_chosen m.mid r.0 over m.settles) r.3

pub reached_chosen : (p : Problem) (b : Budget) (events : List Event) (s : State) → IsReached p b events s → AreChosen s
reached_chosen p b events s h = run_chosen p b h.first events s (begun_good p h.first h.start) (settled_chosen (first_state p) h.first (first_clean p).atoms.trail h.start) h.run

-- the test of a sort
pub pick_there : (s : State) (t : Tests) (v : ℕ) (ps : List (Option Pick)) → ArePicks s t v ps → (u : ℕ) → v + u < s.held.sig.sorts → (q : Option Pick) × (slice_get ps u ≡ Some q) × IsPickAt t (classes_of s.held t (sort (v + u))) (least_true s (v + u)) q
pick_there s t v [] h u lt = absurd (omega (arith, h, lt))
pick_there s t v (q ∷ ps) h zero lt = let z : v ≡ v + 0 = omega arith in (q, refl, subst (λ n. IsPickAt t (classes_of s.held t (sort n)) (least_true s n) q) z h.0)
pick_there s t v (q ∷ ps) h (suc u) lt =
    let z : v + 1 + u ≡ v + suc u = omega arith in
    let r = pick_there s t (v + 1) ps h.1 u (omega (arith, lt)) in
    (r.0, r.1, subst (λ n. IsPickAt t (classes_of s.held t (sort n)) (least_true s n) r.0) z r.2)

pub picks_length : (s : State) (t : Tests) (v : ℕ) (ps : List (Option Pick)) → ArePicks s t v ps → v + length ps ≡ s.held.sig.sorts
picks_length s t v [] h = omega (arith, h)
picks_length s t v (q ∷ ps) h = let r = picks_length s t (v + 1) ps h.1 in omega (arith, r)

pub place_below : {X : Type 0} (xs : List X) (i : ℕ) (x : X) → slice_get xs i ≡ Some x → i < length xs
place_below [] i x e = absurd (cc e)
place_below (y ∷ ys) zero x e = omega arith
place_below (y ∷ ys) (suc i) x e = let lt = place_below ys i x e in omega (arith, lt)
