-- Each step but a decision, an instance and an answer leaves less that can be done, and those take one of the budgets.
use Rattle.std.proofs.Common.{◌≡◌, ℕ, ◌+◌, ◌<◌, ◌≤◌, ◌==◌, Bool, true, false, not, cond, List, [], ◌∷◌, ◌++◌, length, inl, inr, refl, sym, ap, subst, ◌∙◌, arith}
use Rattle.std.specs.List.{count_by, filter}
use Rattle.std.proofs.lemmas.List.Sums.{length-filter}
use Rattle.std.proofs.lemmas.Bool.{and_parts, not-true, true≢false}
use Rattle.fm_base.specs.Resolution.{Has}
use Rattle.fm_base.specs.declared.signature.Sig.{Sig}
use Rattle.fm_bank.specs.declared.atom.Atom.{Atom}
use Rattle.fm_guide.specs.Events.{decisions_in, instances_in}
use Rattle.fm_guide.specs.declared.event.Event.{Event}
use Rattle.fm_sat.specs.Store.{HasNoFalse}
use Rattle.fm_steps.specs.Bounds.{SizesAreInRow}
use Rattle.fm_steps.specs.Lemmas.{is_known}
use Rattle.fm_steps.specs.Lines.{IsSorted, IsWellHeld}
use Rattle.fm_steps.specs.Menu.{menu_of}
use Rattle.fm_steps.specs.Picks.{Known}
use Rattle.fm_steps.specs.Progress.{RunsSpend, StepsLeaveLess, StretchesEnd, TurnsAreFew, are_no_stops, budget_left, is_stop, is_turn, turns_left, work_left}
use Rattle.fm_steps.specs.Rows.{Offer, Row}
use Rattle.fm_steps.specs.Runs.{IsAnswer, IsReached, Run, Step, carried, event_of}
use Rattle.fm_steps.specs.State.{Budget, Problem, State}
use Rattle.fm_steps.proofs.Bounded.{IsBounded}
use Rattle.fm_steps.proofs.Counts.{Adds, row_adds}
use Rattle.fm_steps.proofs.Falling.{imply_less, learn_less, lemma_less, raise_less, settled_less, split_less, take_less, turn_less, unit_less}
use Rattle.fm_steps.proofs.Fresh.{imply_turns, learn_turns, lemma_turns, raise_turns, settled_turns, split_turns, take_turns, turn_turns, unit_turns}
use Rattle.fm_steps.proofs.Held.{steps_stay_held}
use Rattle.fm_steps.proofs.InRow.{IsOrdered, offered_in_row, reached_ordered, row_in_row, step_ordered}
use Rattle.fm_steps.proofs.Known.{row_known}
use Rattle.fm_steps.proofs.Lists.{Has-append, Has-get, only_one}
use Rattle.fm_steps.proofs.Menus.{no_conflict}
use Rattle.fm_steps.proofs.Ready.{quiet_at}
use Rattle.fm_steps.proofs.Runs.{runs_stay_held}

-- lemmas are offered where no clause is false
abbrev IsQuietLemma : State → Offer → Type 0
IsQuietLemma s (Offer.Lemma r d) = HasNoFalse s.clauses s.trail.entries
IsQuietLemma s (Offer.Imply r d) = HasNoFalse s.clauses s.trail.entries
IsQuietLemma s o = Unit {0}

either_quiet : (s : State) (b : Bool) (y z : Offer) → IsQuietLemma s y → IsQuietLemma s z → IsQuietLemma s (cond b y z)
either_quiet s true y z h g = h
either_quiet s false y z h g = g

offered_quiet : (p : Problem) (b : Budget) (s : State) (k : Known) (o : Offer) → Has (menu_of p s k) o → IsQuietLemma s (carried b s o)
offered_quiet p b s k (Offer.Lemma r d) h = quiet_at s.trail.entries 0 s.clauses (no_conflict p s k (Offer.Lemma r d) (omega arith) h)
offered_quiet p b s k (Offer.Decide l) h = either_quiet s (s.decisions == b.decisions) _ (Offer.Decide l) tt tt
offered_quiet p b s k (Offer.Instance i env) h = either_quiet s (s.instances == b.instances) _ (Offer.Instance i env) tt tt
offered_quiet p b s k (Offer.Learn n) h = tt
offered_quiet p b s k (Offer.Unit' n) h = tt
offered_quiet p b s k (Offer.Take r) h = tt
offered_quiet p b s k (Offer.Imply r d) h = quiet_at s.trail.entries 0 s.clauses (no_conflict p s k (Offer.Imply r d) (omega arith) h)
offered_quiet p b s k Offer.Turn h = tt
offered_quiet p b s k (Offer.Split a c) h = tt
offered_quiet p b s k Offer.Raise h = tt
offered_quiet p b s k (Offer.Answer w) h = tt

row_less : (p : Problem) (b : Budget) (s : State) (k : Known) (o : Offer) (t : State) → IsBounded p s → SizesAreInRow p s → IsWellHeld p s → IsQuietLemma s o → is_stop (event_of s o) ≡ false → Row p b s k o t → work_left t < work_left s
row_less p b s k (Offer.Learn n) t bounded row held q e r = learn_less p s bounded row held n t r
row_less p b s k (Offer.Unit' n) t bounded row held q e r = unit_less p s bounded row held n t r
row_less p b s k (Offer.Take h) t bounded row held q e r = take_less p s bounded row held h t r
row_less p b s k (Offer.Lemma h d) t bounded row held q e r = lemma_less p s bounded row held k h d t q r
row_less p b s k (Offer.Imply h d) t bounded row held q e r = imply_less p s bounded row held k h d t q r
row_less p b s k Offer.Turn t bounded row held q e r = turn_less p s bounded row held t r
row_less p b s k (Offer.Decide l) t bounded row held q e r = absurd (true≢false e)
row_less p b s k (Offer.Split a c) t bounded row held q e r = split_less p s bounded row held k a c t r
row_less p b s k (Offer.Instance i env) t bounded row held q e r = absurd (true≢false e)
row_less p b s k Offer.Raise t bounded row held q e r = raise_less p s bounded row held k t r
row_less p b s k (Offer.Answer w) t bounded row held q e r = absurd (true≢false e)

-- the present bound is known before the tests are chosen anew
mid_in_row : (p : Problem) (b : Budget) (s : State) (e : Event) (t : State) → IsOrdered p s → (step : Step p b s e t) → SizesAreInRow p step.move.mid
mid_in_row p b s e t ordered step =
    let has = Has-get (menu_of p s step.known) step.place step.offer step.there in
    let next = offered_in_row p b s step.known step.offer ordered.row ordered.bounded (ap (λ (g : Sig). g.sorts) ordered.sig) has in
    row_in_row p b s step.known (carried b s step.offer) step.move.mid next ordered.row step.move.row

present_known : (p : Problem) (s : State) → SizesAreInRow p s → is_known s (Atom.Bound s.bound) ≡ true
present_known p s row = let l = row.least in (row.bounds s.bound).1 (omega (arith, l), omega arith)

step_less : (p : Problem) (b : Budget) (s : State) (e : Event) (t : State) → IsOrdered p s → IsWellHeld p s → Step p b s e t → is_stop e ≡ false → work_left t < work_left s
step_less p b s e t ordered held step stop =
    let k = step.known in
    let o = carried b s step.offer in
    let m = step.move in
    let lawful = ordered.bounded.good.lawful in
    let has = Has-get (menu_of p s k) step.place step.offer step.there in
    let row = mid_in_row p b s e t ordered step in
    let less = row_less p b s k o m.mid ordered.bounded ordered.row held (offered_quiet p b s k step.offer has) (sym (ap is_stop step.event) ∙ stop) m.row in
    let most = settled_less m.mid t (row_known p b s k o m.mid lawful.atoms lawful.trail m.row) (present_known p m.mid row) m.settles in
    omega (arith, less, most)

pub steps_leave_less : StepsLeaveLess
steps_leave_less p b events s e t sorted h step stop = step_less p b s e t (reached_ordered p b events s h) (runs_stay_held p b events s sorted h) step stop

-- step by step
stretch_ends : (p : Problem) (b : Budget) (s : State) (es : List Event) (t : State) → IsSorted p → IsOrdered p s → IsWellHeld p s → Run p b s es t → are_no_stops es ≡ true → work_left t + length es ≤ work_left s
stretch_ends p b s [] t sorted ordered held r e = let same = ap work_left r in omega (arith, same)
stretch_ends p b s (f ∷ fs) t sorted ordered held r e =
    let parts = and_parts (not (is_stop f)) (are_no_stops fs) e in
    let one = step_less p b s f r.0 ordered held r.1 (not-true (is_stop f) parts.0) in
    let rest = stretch_ends p b r.0 fs t sorted (step_ordered p b s f r.0 ordered r.1) (steps_stay_held p b s f r.0 sorted held r.1) r.3 parts.1 in
    omega (arith, one, rest)

pub stretches_end : StretchesEnd
stretches_end p b events more s t sorted h r e = stretch_ends p b s more t sorted (reached_ordered p b events s h) (runs_stay_held p b events s sorted h) r e

-- Turn and Raise, one of those that can come for each that does
abbrev turns_in : Event → ℕ
turns_in e = cond (is_turn e) 1 0

row_turns : (p : Problem) (b : Budget) (s : State) (k : Known) (o : Offer) (t : State) → IsBounded p s → SizesAreInRow p s → is_stop (event_of s o) ≡ false → Row p b s k o t → turns_left t + turns_in (event_of s o) ≤ turns_left s
row_turns p b s k (Offer.Learn n) t bounded row e r = let h = learn_turns p s bounded row n t r in omega (arith, h)
row_turns p b s k (Offer.Unit' n) t bounded row e r = let h = unit_turns p s bounded row n t r in omega (arith, h)
row_turns p b s k (Offer.Take q) t bounded row e r = let h = take_turns p s bounded row q t r in omega (arith, h)
row_turns p b s k (Offer.Lemma q d) t bounded row e r = let h = lemma_turns p s bounded row k q d t r in omega (arith, h)
row_turns p b s k (Offer.Imply q d) t bounded row e r = let h = imply_turns p s bounded row k q d t r in omega (arith, h)
row_turns p b s k Offer.Turn t bounded row e r = let h = turn_turns p s bounded row t r in omega (arith, h)
row_turns p b s k (Offer.Decide l) t bounded row e r = absurd (true≢false e)
row_turns p b s k (Offer.Split a c) t bounded row e r = let h = split_turns p s bounded row k a c t r in omega (arith, h)
row_turns p b s k (Offer.Instance i env) t bounded row e r = absurd (true≢false e)
row_turns p b s k Offer.Raise t bounded row e r = let h = raise_turns p s bounded row k t r in omega (arith, h)
row_turns p b s k (Offer.Answer w) t bounded row e r = absurd (true≢false e)

step_turns : (p : Problem) (b : Budget) (s : State) (e : Event) (t : State) → IsOrdered p s → Step p b s e t → is_stop e ≡ false → turns_left t + turns_in e ≤ turns_left s
step_turns p b s e t ordered step stop =
    let k = step.known in
    let o = carried b s step.offer in
    let m = step.move in
    let lawful = ordered.bounded.good.lawful in
    let row = mid_in_row p b s e t ordered step in
    let here = row_turns p b s k o m.mid ordered.bounded ordered.row (sym (ap is_stop step.event) ∙ stop) m.row in
    let kept = settled_turns m.mid t (row_known p b s k o m.mid lawful.atoms lawful.trail m.row) (present_known p m.mid row) m.settles in
    let same = ap turns_in step.event in
    omega (arith, here, kept, same)

count_first : (e : Event) (es : List Event) → count_by is_turn (e ∷ es) ≡ turns_in e + count_by is_turn es
count_first e es =
    let a = length-filter is_turn (e ∷ es) in
    let b = length-filter is_turn es in
    let c = first_long (is_turn e) e (filter is_turn es) in
    omega (arith, a, b, c)
  where
    first_long : (b : Bool) (x : Event) (xs : List Event) → length (cond b (x ∷ xs) xs) ≡ cond b 1 0 + length xs
    first_long true x xs = omega arith
    first_long false x xs = omega arith

run_turns : (p : Problem) (b : Budget) (s : State) (es : List Event) (t : State) → IsOrdered p s → Run p b s es t → are_no_stops es ≡ true → turns_left t + count_by is_turn es ≤ turns_left s
run_turns p b s [] t ordered r e = let same = ap turns_left r in let none = length-filter is_turn [] in omega (arith, same, none)
run_turns p b s (f ∷ fs) t ordered r e =
    let parts = and_parts (not (is_stop f)) (are_no_stops fs) e in
    let one = step_turns p b s f r.0 ordered r.1 (not-true (is_stop f) parts.0) in
    let rest = run_turns p b r.0 fs t (step_ordered p b s f r.0 ordered r.1) r.3 parts.1 in
    let first = count_first f fs in
    omega (arith, one, rest, first)

pub turns_are_few : TurnsAreFew
turns_are_few p b events more s t h r e = run_turns p b s more t (reached_ordered p b events s h) r e

-- what the events take of the budgets
spends_none : (b : Budget) (s t : State) (e : Event) → instances_in e ≡ 0 → decisions_in e ≡ 0 → Adds s e t → budget_left b t + (instances_in e + decisions_in e) ≡ budget_left b s
spends_none b s t e i d a = let x = a.instances in let y = a.decisions in omega (arith, i, d, x, y)

row_spends : (p : Problem) (b : Budget) (s : State) (k : Known) (o : Offer) (t : State) → Row p b s k o t → Adds s (event_of s o) t → budget_left b t + (instances_in (event_of s o) + decisions_in (event_of s o)) ≡ budget_left b s
row_spends p b s k (Offer.Decide l) t r a = let x = a.instances in let y = a.decisions in let room = r.room in omega (arith, x, y, room)
row_spends p b s k (Offer.Instance i env) t r a = let x = a.instances in let y = a.decisions in let room = r.room in omega (arith, x, y, room)
row_spends p b s k (Offer.Learn n) t r a = spends_none b s t _ refl refl a
row_spends p b s k (Offer.Unit' n) t r a = spends_none b s t _ refl refl a
row_spends p b s k (Offer.Take h) t r a = spends_none b s t _ refl refl a
row_spends p b s k (Offer.Lemma h d) t r a = spends_none b s t _ refl refl a
row_spends p b s k (Offer.Imply h d) t r a = spends_none b s t _ refl refl a
row_spends p b s k Offer.Turn t r a = spends_none b s t _ refl refl a
row_spends p b s k (Offer.Split c d) t r a = spends_none b s t _ refl refl a
row_spends p b s k Offer.Raise t r a = spends_none b s t _ refl refl a
row_spends p b s k (Offer.Answer w) t r a = spends_none b s t _ refl refl a

step_spends : (p : Problem) (b : Budget) (s : State) (e : Event) (t : State) → Step p b s e t → budget_left b t + (instances_in e + decisions_in e) ≡ budget_left b s
step_spends p b s e t step =
    let o = carried b s step.offer in
    let m = step.move in
    let spent = row_spends p b s step.known o m.mid m.row (row_adds p b s step.known o m.mid m.row) in
    let here : budget_left b t + (instances_in (event_of s o) + decisions_in (event_of s o)) ≡ budget_left b s = subst (λ (u : State). budget_left b u + (instances_in (event_of s o) + decisions_in (event_of s o)) ≡ budget_left b s) (sym m.settles.after) spent in
    subst (λ (f : Event). budget_left b t + (instances_in f + decisions_in f) ≡ budget_left b s) (sym step.event) here

pub runs_spend : RunsSpend
runs_spend p b s [] t r = let same = ap (budget_left b) r in omega (arith, same)
runs_spend p b s (e ∷ es) t r =
    let one = step_spends p b s e r.0 r.1 in
    let rest = runs_spend p b r.0 es t r.3 in
    omega (arith, one, rest)

-- a run goes on by a step where none of its events was an answer; so the loop over steps has a state of a run each time
abbrev pub HasNoAnswer : List Event → Type 0
HasNoAnswer es = (e : Event) → Has es e → IsAnswer e → ⊥

pub run_push : (p : Problem) (b : Budget) (s : State) (es : List Event) (t : State) (e : Event) (u : State) → HasNoAnswer es → Run p b s es t → Step p b t e u → Run p b s (es ++ e ∷ []) u
run_push p b s [] t e u none r step = (u, subst (λ (x : State). Step p b x e u) r step, λ a. refl, refl)
run_push p b s (f ∷ fs) t e u none r step = (r.0, r.1, λ a. absurd (none f (inl refl) a), run_push p b r.0 fs t e u (λ g h. none g (inr h)) r.3 step)

pub reached_push : (p : Problem) (b : Budget) (events : List Event) (s : State) (e : Event) (t : State) → HasNoAnswer events → IsReached p b events s → Step p b s e t → IsReached p b (events ++ e ∷ []) t
reached_push p b events s e t none h step = record { first = h.first; start = h.start; run = run_push p b h.first events s e t none h.run step }

pub no_answer_push : (es : List Event) (e : Event) → HasNoAnswer es → (IsAnswer e → ⊥) → HasNoAnswer (es ++ e ∷ [])
no_answer_push es e none other f h = elim (Has-append es (e ∷ []) f h) [ inl old ↦ none f old | inr new ↦ (λ a. other (subst IsAnswer (sym (only_one e f new)) a)) ]
