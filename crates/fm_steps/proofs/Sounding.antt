-- What a run has shown of every interpretation that satisfies its problem's clauses.
use Rattle.std.proofs.Common.{◌≡◌, ◌≢◌, ℕ, zero, suc, ◌<◌, ◌≤◌, ◌==◌, ◌&&◌, Bool, true, false, not, nat_le, List, take, get_or, Some, None, inl, inr, refl, sym, ap, subst, ◌∙◌, arith}
use Rattle.std.specs.Prelude.{Option, slice_get}
use Rattle.std.proofs.lemmas.Bool.{and_parts, cases_Bool, cases_lt, eqb-true, leb-false, not-true, true≢false}
use Rattle.fm_base.specs.Interpretations.{IsInterpretation, Reading}
use Rattle.fm_base.specs.Models.{sum_below, sum_of_sizes}
use Rattle.fm_base.specs.Resolution.{Has}
use Rattle.fm_base.specs.declared.ids.Lit.{Lit}
use Rattle.fm_base.proofs.Resolution.{mapped_has}
use Rattle.fm_bank.specs.Clauses.{Satisfies}
use Rattle.fm_bank.specs.Ground.{lit_true}
use Rattle.fm_bank.specs.Interning.{find_atom}
use Rattle.fm_bank.specs.Terms.{value_of}
use Rattle.fm_bank.specs.declared.atom.Atom.{Atom}
use Rattle.fm_bank.specs.declared.literal.Literal.{Literal}
use Rattle.fm_cert.proofs.Sound.{opposite-is_true, true_member}
use Rattle.fm_guide.specs.declared.event.Event.{Event}
use Rattle.fm_rounds.proofs.Members.{any_in}
use Rattle.fm_sat.proofs.Endings.{false_member}
use Rattle.fm_trail.specs.declared.entry.Entry.{Entry}
use Rattle.fm_trail.proofs.Literals.{level_at, levels_ascend}
use Rattle.fm_trail.proofs.Places.{get_front}
use Rattle.fm_steps.specs.Facts.{TrailIsExplained}
use Rattle.fm_steps.specs.Lines.{Certified, IsSorted, are_written, clause_in, literal_in, searched}
use Rattle.fm_steps.specs.Runs.{IsReached}
use Rattle.fm_steps.specs.Sizes.{is_refuted, is_refuted_by, is_refuting}
use Rattle.fm_steps.specs.Soundness.{NoneIsRefuted, SumIsReached, ZeroIsTrue}
use Rattle.fm_steps.specs.State.{Budget, Clause, State}
use Rattle.fm_steps.proofs.Bounded.{found_at, zero_implied}
use Rattle.fm_steps.proofs.InRow.{IsOrdered, reached_ordered}
use Rattle.fm_steps.proofs.Runs.{runs_follow}
use Rattle.fm_steps.proofs.Trails.{IsDenied, denied}
use Rattle.fm_steps.proofs.Written.{got, has_place}

module _ (c : Certified) (user : ℕ) (b : Budget) (events : List Event) (s : State) (m : Reading) (sorted : IsSorted (searched c user)) (h : IsReached (searched c user) b events s) (fit : are_written s ≡ true) (is : IsInterpretation c.symbols m) (sat : Satisfies m c.clauses) where
  ordered : IsOrdered (searched c user) s
  ordered = reached_ordered (searched c user) b events s h

  explained : TrailIsExplained s
  explained = ordered.bounded.good.lawful.trail

  -- truth of a literal by number
  abbrev holds : Lit → Bool
  holds l = lit_true c.symbols m (value_of m s.held.terms) l.positive (literal_in s.held.atoms l).atom

  -- a clause of the list has a true literal
  true_one : (n : ℕ) (k : Clause) → slice_get s.clauses n ≡ Some k → (l : Lit) × Has k l × (holds l ≡ true)
  true_one n k at =
      let t = true_member c.symbols m (value_of m s.held.terms) (clause_in s.held.atoms k) (runs_follow c user b events s sorted h fit m is sat n k at) in
      let w = mapped_has (literal_in s.held.atoms) k t.0 t.1 in
      (w.lit, w.has, subst (λ (x : Literal). lit_true c.symbols m (value_of m s.held.terms) x.positive x.atom ≡ true) (sym w.is) t.2)

  -- a true literal isn't denied by a true entry
  contradicts : (es : List Entry) (l : Lit) (d : IsDenied es l) → holds l ≡ true → holds d.entry.lit ≡ true → ⊥
  contradicts es l d t u =
      let f = opposite-is_true c.symbols m (value_of m s.held.terms) l.positive (literal_in s.held.atoms l).atom t in
      let same : holds d.entry.lit ≡ lit_true c.symbols m (value_of m s.held.terms) (not l.positive) (literal_in s.held.atoms l).atom = λ i. lit_true c.symbols m (value_of m s.held.terms) (d.sign i) (get_or s.held.atoms (d.atom i) (Atom.Bound 0)) in
      true≢false (sym u ∙ (same ∙ f))

  zero_by : (n i : ℕ) (e : Entry) → i < n → slice_get s.trail.entries i ≡ Some e → e.level ≡ 0 → holds e.lit ≡ true
  zero_by zero i e lt at z = absurd (omega (arith, lt))
  zero_by (suc n) i e lt at z =
      let es = s.trail.entries in
      let w = zero_implied s explained i e at z in
      let r = explained.explained i e w.0 at w.1 in
      let t = true_one w.0 r.clause r.stored in
      elim (cases_Bool (holds e.lit)) [
        | inl yes' ↦ yes'
        | inr no' ↦ (
            let ne : t.0 ≢ e.lit = λ q. true≢false (sym t.2 ∙ (ap holds q ∙ no')) in
            let d = denied (take i es) t.0 (r.others t.0 t.1 ne) in
            let f = get_front es i d.place d.entry d.at in
            let below = f.0 in
            let low = levels_ascend 0 es d.place i d.entry e explained.levels (omega (arith, below)) f.1 at in
            absurd (contradicts (take i es) t.0 d t.2 (zero_by n d.place d.entry (omega (arith, below, lt)) f.1 (omega (arith, low, z)))))
      ]

  pub zero_is_true : ZeroIsTrue c s m
  zero_is_true i e at z = zero_by (suc i) i e (omega arith) at z

  pub none_is_refuted : NoneIsRefuted c s m
  none_is_refuted n r =
      let es = s.trail.entries in
      let t = true_one n r.clause r.stored in
      let d = denied es t.0 (false_member es r.clause t.0 r.falsified t.1) in
      let level = level_at es t.0 d.place d.entry explained.once d.at d.atom in
      let zero_level = r.zero_level t.0 t.1 in
      contradicts es t.0 d t.2 (zero_is_true d.place d.entry d.at (omega (arith, level, zero_level)))

  -- a bound that is false at level 0 is below the sum
  above_number : (j n : ℕ) → find_atom s.held.atoms (Atom.Bound j) ≡ Some n → is_refuted_by s.trail.entries (Some n) ≡ true → j < sum_of_sizes c.symbols m
  above_number j n found r =
      let w = any_in (is_refuting n) s.trail.entries r in
      let at = has_place s.trail.entries w.0 w.1 in
      let q = and_parts (w.0.lit.atom.0 == n && not w.0.lit.positive) (w.0.level == 0) w.2 in
      let a = and_parts (w.0.lit.atom.0 == n) (not w.0.lit.positive) q.0 in
      let atom : (literal_in s.held.atoms w.0.lit).atom ≡ Atom.Bound j = ap (λ k. get_or s.held.atoms k (Atom.Bound 0)) (eqb-true w.0.lit.atom.0 n a.0) ∙ got s.held.atoms n (Atom.Bound j) (Atom.Bound 0) (found_at s.held.atoms (Atom.Bound j) n found) in
      let sign : w.0.lit.positive ≡ false = not-true w.0.lit.positive a.1 in
      let t = zero_is_true at.0 w.0 at.1 (eqb-true w.0.level 0 q.1) in
      let u : not (nat_le (sum_of_sizes c.symbols m) j) ≡ true = sym (λ i. lit_true c.symbols m (value_of m s.held.terms) (sign i) (atom i)) ∙ t in
      leb-false (sum_of_sizes c.symbols m) j (not-true (nat_le (sum_of_sizes c.symbols m) j) u)

  above_by : (j : ℕ) (o : Option ℕ) → find_atom s.held.atoms (Atom.Bound j) ≡ o → is_refuted_by s.trail.entries o ≡ true → j < sum_of_sizes c.symbols m
  above_by j None e r = absurd (true≢false (sym r))
  above_by j (Some n) e r = above_number j n e r

  above : (j : ℕ) → is_refuted s (Atom.Bound j) ≡ true → j < sum_of_sizes c.symbols m
  above j r = above_by j (find_atom s.held.atoms (Atom.Bound j)) refl r

  -- each sort has an element
  at_least : (n : ℕ) → n ≤ c.symbols.sorts → n ≤ sum_below n m.size
  unfolding sum_below
  at_least zero le = omega arith
  at_least (suc n) le =
      let rest = at_least n (omega (arith, le)) in
      let one = is.inhabited n (omega (arith, le)) in
      omega (arith, rest, one)

  least_by : (n : ℕ) → n ≡ s.bound → n ≤ sum_of_sizes c.symbols m
  least_by zero e = omega arith
  least_by (suc j) e =
      elim (cases_lt j c.symbols.sorts) [
        | inl few ↦ (let least = at_least c.symbols.sorts (omega arith) in omega (arith, few, least))
        | inr more ↦ (let lt = above j (ordered.bounded.good.lawful.bounds.smaller j (omega (arith, more)) (omega (arith, e))) in omega (arith, lt))
      ]

  pub sum_is_reached : SumIsReached c s m
  sum_is_reached = record {
    least = least_by s.bound refl;
    above = λ free. above s.bound (ordered.bounded.good.lawful.bounds.present free);
  }
