-- What is false at level 0 stays so; so the smaller bounds stay refuted.
use Rattle.std.proofs.Common.{◌≡◌, ℕ, ◌+◌, Bool, true, false, not, ◌&&◌, ◌==◌, cond, List, [], ◌∷◌, ◌++◌, Some, None, inl, inr, refl, sym, subst, ◌∙◌, arith}
use Rattle.std.specs.Prelude.{Option, nat_le}
use Rattle.std.specs.List.{flat_map, list_any}
use Rattle.std.proofs.lemmas.Bool.{and_parts, cases_lt, eqb-true, false≢true, le-leb, or_cases, or_left, or_right}
use Rattle.fm_base.specs.declared.ids.Lit.{Lit}
use Rattle.fm_bank.specs.Instances.{equality}
use Rattle.fm_bank.specs.Interning.{find_atom, with_atom, with_atoms}
use Rattle.fm_bank.specs.declared.atom.Atom.{Atom}
use Rattle.fm_bank.specs.declared.literal.Literal.{Literal}
use Rattle.fm_sat.specs.Learning.{Steps}
use Rattle.fm_trail.specs.declared.entry.Entry.{Entry}
use Rattle.fm_trail.specs.Trail.{up_to}
use Rattle.fm_steps.specs.Facts.{SmallerAreRefuted}
use Rattle.fm_steps.specs.Picks.{Known, pick_literals}
use Rattle.fm_steps.specs.Rows.{Offer, Row, after_learning, instance_literals}
use Rattle.fm_steps.specs.Runs.{Move}
use Rattle.fm_steps.specs.Sizes.{is_refuted, is_refuted_by, is_refuting, lit}
use Rattle.fm_steps.specs.State.{Budget, Clause, Problem, State}
use Rattle.fm_steps.proofs.Lists.{any_more}
use Rattle.fm_steps.proofs.Numbers.{find_all}

-- false at level 0, by the atoms and the trail alone
abbrev pub IsLow : List Atom → List Entry → Atom → Type 0
IsLow atoms es a = is_refuted_by es (find_atom atoms a) ≡ true

refuting_level : (n : ℕ) (e : Entry) → is_refuting n e ≡ true → e.level ≡ 0
refuting_level n e h = eqb-true e.level 0 (and_parts (e.lit.atom.0 == n && not e.lit.positive) (e.level == 0) h).1

kept_here : (n level : ℕ) (e : Entry) (rest : List Entry) (b : Bool) → b ≡ true → is_refuting n e ≡ true → list_any (is_refuting n) (cond b (e ∷ rest) rest) ≡ true
kept_here n level e rest true same h = or_left (is_refuting n e) (list_any (is_refuting n) rest) h
kept_here n level e rest false same h = absurd (false≢true same)

kept_later : (n : ℕ) (e : Entry) (rest : List Entry) (b : Bool) → list_any (is_refuting n) rest ≡ true → list_any (is_refuting n) (cond b (e ∷ rest) rest) ≡ true
kept_later n e rest true h = or_right (is_refuting n e) (list_any (is_refuting n) rest) h
kept_later n e rest false h = h

any_back : (n level : ℕ) (es : List Entry) → list_any (is_refuting n) es ≡ true → list_any (is_refuting n) (up_to level es) ≡ true
any_back n level [] h = h
any_back n level (e ∷ es) h =
    elim (or_cases (is_refuting n e) (list_any (is_refuting n) es) h) [
      | inl here ↦ (let z = refuting_level n e here in kept_here n level e (up_to level es) (nat_le e.level level) (le-leb e.level level (omega (arith, z))) here)
      | inr more ↦ kept_later n e (up_to level es) (nat_le e.level level) (any_back n level es more)
    ]

pub low_push : (es : List Entry) (e : Entry) (o : Option ℕ) → is_refuted_by es o ≡ true → is_refuted_by (es ++ e ∷ []) o ≡ true
low_push es e None h = h
low_push es e (Some n) h = any_more (is_refuting n) es (e ∷ []) h

pub low_back : (es : List Entry) (level : ℕ) (o : Option ℕ) → is_refuted_by es o ≡ true → is_refuted_by (up_to level es) o ≡ true
low_back es level None h = h
low_back es level (Some n) h = any_back n level es h

low_step : (es : List Entry) (o q : Option ℕ) → ((n : ℕ) → o ≡ Some n → q ≡ Some n) → is_refuted_by es o ≡ true → is_refuted_by es q ≡ true
low_step es None q same h = absurd (false≢true h)
low_step es (Some n) q same h = subst (λ (x : Option ℕ). is_refuted_by es x ≡ true) (sym (same n refl)) h

pub low_all : (atoms : List Atom) (es : List Entry) (ls : List Literal) (a : Atom) → IsLow atoms es a → IsLow (with_atoms atoms ls) es a
low_all atoms es ls a h = low_step es (find_atom atoms a) (find_atom (with_atoms atoms ls) a) (λ n e. find_all ls atoms a n e) h

-- what is refuted in s is refuted in t
abbrev pub Carries : State → State → Type 0
Carries s t = (a : Atom) → is_refuted s a ≡ true → is_refuted t a ≡ true

smaller_kept : (m : ℕ) (s t : State) → t.bound ≡ s.bound → t.free ≡ s.free → Carries s t → SmallerAreRefuted m s → SmallerAreRefuted m t
smaller_kept m s t eb ef c h = record {
  smaller = λ j low high. c (Atom.Bound j) (h.smaller j low (omega (arith, high, eb)));
  present = λ f. subst (λ n. is_refuted t (Atom.Bound n) ≡ true) (sym eb) (c (Atom.Bound s.bound) (h.present (sym ef ∙ f)));
}

smaller_at : {u : State} (m : ℕ) (s t : State) → t ≡ u → u.bound ≡ s.bound → u.free ≡ s.free → Carries s u → SmallerAreRefuted m s → SmallerAreRefuted m t
smaller_at {u} m s t e eb ef c h = subst (SmallerAreRefuted m) (sym e) (smaller_kept m s u eb ef c h)

learnt : (m n : ℕ) (lits : Clause) (l : Lit) (level : ℕ) (steps : Steps) (s : State) → SmallerAreRefuted m s → SmallerAreRefuted m (after_learning n steps lits l level s)
learnt m n lits l level [] s h = smaller_kept m s (after_learning n [] lits l level s) refl refl (λ a q. low_push (up_to level s.trail.entries) _ (find_atom s.held.atoms a) (low_back s.trail.entries level (find_atom s.held.atoms a) q)) h
learnt m n lits l level (step ∷ steps) s h = smaller_kept m s (after_learning n (step ∷ steps) lits l level s) refl refl (λ a q. low_push (up_to level s.trail.entries) _ (find_atom s.held.atoms a) (low_back s.trail.entries level (find_atom s.held.atoms a) q)) h

row_smaller : (m : ℕ) (p : Problem) (b : Budget) (s : State) (k : Known) (o : Offer) (t : State) → SmallerAreRefuted m s → Row p b s k o t → SmallerAreRefuted m t
row_smaller m p b s k (Offer.Learn n) t h r = subst (SmallerAreRefuted m) (sym r.after) (learnt m n r.lits r.lit r.level r.steps s h)
row_smaller m p b s k (Offer.Unit' n) t h r = smaller_at m s t r.after refl refl (λ a q. low_push s.trail.entries _ (find_atom s.held.atoms a) q) h
row_smaller m p b s k (Offer.Take e) t h r = smaller_at m s t r.after refl refl (λ a q. q) h
row_smaller m p b s k (Offer.Lemma e d) t h r = smaller_at m s t r.after refl refl (λ a q. low_all s.held.atoms s.trail.entries r.lits a q) h
row_smaller m p b s k (Offer.Imply e d) t h r = smaller_at m s t r.after refl refl (λ a q. low_all s.held.atoms (s.trail.entries ++ _ ∷ []) r.lits a (low_push s.trail.entries _ (find_atom s.held.atoms a) q)) h
row_smaller m p b s k Offer.Turn t h r = subst (SmallerAreRefuted m) (sym r.after) (record {
  smaller = λ j low high. low_back s.trail.entries 0 (find_atom s.held.atoms (Atom.Bound j)) (h.smaller j low high);
  present = λ f. low_back s.trail.entries 0 (find_atom s.held.atoms (Atom.Bound s.bound)) r.refuted;
})
row_smaller m p b s k (Offer.Decide l) t h r = smaller_at m s t r.after refl refl (λ a q. low_push s.trail.entries _ (find_atom (with_atom s.held.atoms l.atom) a) (low_all s.held.atoms s.trail.entries (l ∷ []) a q)) h
row_smaller m p b s k (Offer.Split c d) t h r = smaller_at m s t r.after refl refl (λ a q. low_all s.held.atoms s.trail.entries (lit true (equality c d) ∷ []) a q) h
row_smaller m p b s k (Offer.Instance i terms) t h r = smaller_at m s t r.after refl refl (λ a q. low_all s.held.atoms s.trail.entries (instance_literals s.held r.clause terms) a q) h
row_smaller m p b s k Offer.Raise t h r =
    let next : List Literal = lit true (Atom.Bound (s.bound + 1)) ∷ [] in
    let carry : (a : Atom) → is_refuted s a ≡ true → IsLow (with_atoms s.held.atoms next) (up_to 0 s.trail.entries) a = λ a q. low_all s.held.atoms (up_to 0 s.trail.entries) next a (low_back s.trail.entries 0 (find_atom s.held.atoms a) q) in
    subst (SmallerAreRefuted m) (sym r.after) (record {
      smaller = λ j low high. elim (cases_lt j s.bound) [
        | inl lt ↦ carry (Atom.Bound j) (h.smaller j low lt)
        | inr ge ↦ (let e : s.bound ≡ j = omega (arith, high, ge) in carry (Atom.Bound j) (subst (λ n. is_refuted s (Atom.Bound n) ≡ true) e (h.present r.free)))
      ];
      present = λ f. absurd (false≢true f);
    })
row_smaller m p b s k (Offer.Answer w) t h r = subst (SmallerAreRefuted m) (sym r.1) h

pub move_smaller : (m : ℕ) (p : Problem) (b : Budget) (s : State) (k : Known) (o : Offer) (t : State) → SmallerAreRefuted m s → Move p b s k o t → SmallerAreRefuted m t
move_smaller m p b s k o t h v =
    let q = row_smaller m p b s k o v.mid h v.row in
    smaller_at m v.mid t v.settles.after refl refl (λ a x. low_all v.mid.held.atoms v.mid.trail.entries (flat_map pick_literals v.settles.picks) a x) q
