-- Every state of a run has lines, and its clauses follow from the problem's.
use Rattle.std.proofs.Common.{◌≡◌, ℕ, ◌+◌, true, Bool, List, [], ◌∷◌, ◌++◌, refl, sym, ap, subst, ◌∙◌}
use Rattle.std.specs.Option.{option_map}
use Rattle.std.specs.List.{flat_map, list_all}
use Rattle.std.proofs.lemmas.Bool.{and_from, and_parts}
use Rattle.std.proofs.lemmas.Option.{slice_get-map}
use Rattle.fm_bank.specs.Instances.{equality}
use Rattle.fm_bank.specs.Interning.{IsFront}
use Rattle.fm_bank.specs.declared.atom.Atom.{Atom}
use Rattle.fm_bank.proofs.Growing.{atoms_fronts, front-refl, front-trans}
use Rattle.fm_cert.proofs.Sound.{good_lines}
use Rattle.fm_cert.specs.Lines.{AreGoodLines, Made, nothing}
use Rattle.fm_guide.specs.declared.event.Event.{Event}
use Rattle.fm_sat.specs.Learning.{Steps}
use Rattle.fm_base.specs.declared.ids.Lit.{Lit}
use Rattle.fm_steps.specs.Lines.{Certified, HasLines, IsSorted, IsWellHeld, RunsFollow, RunsHaveLines, RunsStayHeld, are_written, clause_in, is_written, made_of, row_lines, searched, start_lines}
use Rattle.fm_steps.specs.Picks.{Known, pick_literals}
use Rattle.fm_steps.specs.Rows.{Offer, Row, after_learning, instance_literals}
use Rattle.fm_steps.specs.Runs.{Move, Run, carried}
use Rattle.fm_steps.specs.Sizes.{lit}
use Rattle.fm_steps.specs.State.{Budget, Clause, Problem, State}
use Rattle.fm_steps.proofs.Begun.{settling_writes_nothing, start_is_written, starts_held}
use Rattle.fm_steps.proofs.Held.{steps_stay_held}
use Rattle.fm_steps.proofs.Known.{row_known}
use Rattle.fm_steps.proofs.Running.{IsGood, begun_good, step_good}
use Rattle.fm_steps.proofs.Written.{good_append, row_written}

-- known atoms stay where they are
learnt_front : (n : ℕ) (lits : Clause) (l : Lit) (level : ℕ) (steps : Steps) (s : State) → IsFront s.held.atoms (after_learning n steps lits l level s).held.atoms
learnt_front n lits l level [] s = front-refl s.held.atoms
learnt_front n lits l level (step ∷ steps) s = front-refl s.held.atoms

abbrev Grows : State → State → Type 0
Grows s t = IsFront s.held.atoms t.held.atoms

pub row_grows : (p : Problem) (b : Budget) (s : State) (k : Known) (o : Offer) (t : State) → Row p b s k o t → Grows s t
row_grows p b s k (Offer.Learn n) t r = subst (Grows s) (sym r.after) (learnt_front n r.lits r.lit r.level r.steps s)
row_grows p b s k (Offer.Unit' n) t r = subst (Grows s) (sym r.after) (front-refl s.held.atoms)
row_grows p b s k (Offer.Take e) t r = subst (Grows s) (sym r.after) (front-refl s.held.atoms)
row_grows p b s k (Offer.Lemma e d) t r = subst (Grows s) (sym r.after) (atoms_fronts r.lits s.held.atoms)
row_grows p b s k (Offer.Imply e d) t r = subst (Grows s) (sym r.after) (atoms_fronts r.lits s.held.atoms)
row_grows p b s k Offer.Turn t r = subst (Grows s) (sym r.after) (front-refl s.held.atoms)
row_grows p b s k (Offer.Decide l) t r = subst (Grows s) (sym r.after) (atoms_fronts (l ∷ []) s.held.atoms)
row_grows p b s k (Offer.Split a c) t r = subst (Grows s) (sym r.after) (atoms_fronts (lit true (equality a c) ∷ []) s.held.atoms)
row_grows p b s k (Offer.Instance i env) t r = subst (Grows s) (sym r.after) (atoms_fronts (instance_literals s.held r.clause env) s.held.atoms)
row_grows p b s k Offer.Raise t r = subst (Grows s) (sym r.after) (atoms_fronts (lit true (Atom.Bound (s.bound + 1)) ∷ []) s.held.atoms)
row_grows p b s k (Offer.Answer w) t r = subst (Grows s) (sym r.1) (front-refl s.held.atoms)

move_grows : (p : Problem) (b : Budget) (s : State) (k : Known) (o : Offer) (t : State) → Move p b s k o t → Grows s t
move_grows p b s k o t m =
    let more : Grows m.mid t = subst (Grows m.mid) (sym m.settles.after) (atoms_fronts (flat_map pick_literals m.settles.picks) m.mid.held.atoms) in
    front-trans s.held.atoms m.mid.held.atoms t.held.atoms (row_grows p b s k o m.mid m.row) more

run_grows : (p : Problem) (b : Budget) (s : State) (es : List Event) (t : State) → Run p b s es t → Grows s t
run_grows p b s [] t r = subst (Grows s) (sym r) (front-refl s.held.atoms)
run_grows p b s (e ∷ es) t r = front-trans s.held.atoms r.0.held.atoms t.held.atoms (move_grows p b s r.1.known (carried b s r.1.offer) r.0 r.1.move) (run_grows p b r.0 es t r.3)

all_front : {X : Type 0} (p : X → Bool) (xs ys : List X) → list_all p (xs ++ ys) ≡ true → list_all p xs ≡ true
all_front p [] ys e = refl
all_front p (x ∷ xs) ys e = let q = and_parts (p x) (list_all p (xs ++ ys)) e in and_from (p x) (list_all p xs) q.0 (all_front p xs ys q.1)

written_back : (s t : State) → Grows s t → are_written t ≡ true → are_written s ≡ true
written_back s t f e = all_front is_written s.held.atoms f.0 (subst (λ (as' : List Atom). list_all is_written as' ≡ true) (sym f.1) e)

-- terms, atoms and tests along a run
run_held : (p : Problem) (b : Budget) (s : State) (es : List Event) (t : State) → IsSorted p → IsWellHeld p s → Run p b s es t → IsWellHeld p t
run_held p b s [] t sorted w r = subst (IsWellHeld p) (sym r) w
run_held p b s (e ∷ es) t sorted w r = run_held p b r.0 es t sorted (steps_stay_held p b s e r.0 sorted w r.1) r.3

pub runs_stay_held : RunsStayHeld
runs_stay_held p b events s sorted h = run_held p b h.first events s sorted (starts_held p h.first sorted h.start) h.run

module _ (c : Certified) (user : ℕ) (sorted : IsSorted (searched c user)) (b : Budget) where
  move_lines : (s : State) (k : Known) (o : Offer) (t : State) → IsGood (searched c user) s → IsWellHeld (searched c user) s → are_written s ≡ true → Move (searched c user) b s k o t → HasLines c s → HasLines c t
  move_lines s k o t g w fit m lines =
      let p : Problem = searched c user in
      let more = row_written c user s sorted g.lawful w fit b k o m.mid m.row in
      let known = row_known p b s k o m.mid g.lawful.atoms g.lawful.trail m.row in
      let whole = good_append c nothing lines.0 (made_of s) (row_lines p b s k o m.mid m.row) (made_of m.mid) lines.1 more in
      (lines.0 ++ row_lines p b s k o m.mid m.row, subst (λ (x : Made). AreGoodLines c nothing (lines.0 ++ row_lines p b s k o m.mid m.row) x) (sym (settling_writes_nothing m.mid t known m.settles)) whole)

  run_lines : (s : State) (es : List Event) (t : State) → IsGood (searched c user) s → IsWellHeld (searched c user) s → are_written t ≡ true → Run (searched c user) b s es t → HasLines c s → HasLines c t
  run_lines s [] t g w fit r lines = subst (HasLines c) (sym r) lines
  run_lines s (e ∷ es) t g w fit r lines =
      let p : Problem = searched c user in
      let step = r.1 in
      let here = written_back s t (run_grows p b s (e ∷ es) t r) fit in
      run_lines r.0 es t (step_good p b s e r.0 g step) (steps_stay_held p b s e r.0 sorted w step) fit r.3 (move_lines s step.known (carried b s step.offer) r.0 g w here step.move lines)

pub runs_have_lines : RunsHaveLines
runs_have_lines c user b events s sorted h fit =
    let p : Problem = searched c user in
    run_lines c user sorted b h.first events s (begun_good p h.first h.start) (starts_held p h.first sorted h.start) fit h.run (start_lines p, start_is_written c user h.first sorted h.start)

pub runs_follow : RunsFollow
runs_follow c user b events s sorted h fit m interpretation satisfies i k at =
    let lines = runs_have_lines c user b events s sorted h fit in
    good_lines c m lines.0 (made_of s) i (clause_in s.held.atoms k) interpretation satisfies lines.1 (slice_get-map (clause_in s.held.atoms) s.clauses i ∙ ap (option_map (clause_in s.held.atoms)) at)
