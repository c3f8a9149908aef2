-- The terms of the tests stand in ascending order.
use Rattle.std.proofs.Common.{◌≡◌, ℕ, zero, suc, ◌+◌, ◌<◌, ◌==◌, ◌&&◌, ◌||◌, Bool, true, false, cond, List, [], ◌∷◌, map, Some, None, sym, subst, ◌∙◌, arith}
use Rattle.std.specs.Prelude.{Option, slice_get}
use Rattle.std.specs.List.{All, filter, list_any, range_with_len}
use Rattle.std.proofs.lemmas.Slice.Eq.{bytes_eq-Decides}
use Rattle.fm_base.specs.Resolution.{Has}
use Rattle.fm_base.proofs.Resolution.{mapped_has}
use Rattle.fm_bank.specs.Interning.{Held}
use Rattle.fm_bank.specs.Regions.{first_large, grown_regions, is_in}
use Rattle.fm_bank.specs.Tests.{Tests}
use Rattle.fm_guide.specs.declared.event.Event.{Event}
use Rattle.fm_rounds.proofs.Members.{in_filter, in_range}
use Rattle.fm_steps.specs.Content.{classes_of, is_oldest, is_term_of_sort}
use Rattle.fm_steps.specs.Picks.{ArePicks, IsPickAt, IsTest, Settles}
use Rattle.fm_steps.specs.Runs.{IsReached, Run}
use Rattle.fm_steps.specs.Sizes.{least_true, sort}
use Rattle.fm_steps.specs.State.{Budget, Pick, Problem, State}
use Rattle.fm_steps.proofs.Lists.{all_from}
use Rattle.fm_steps.proofs.Tested.{first_grown}

abbrev pub Ascends : List ℕ → Type 0
Ascends [] = Unit {0}
Ascends (x ∷ xs) = ((y : ℕ) → Has xs y → x < y) × Ascends xs

range_rises : (a n : ℕ) → Ascends (range_with_len a n)
range_rises a zero = tt
range_rises a (suc n) = ((λ y h. let low = (in_range y (a + 1) n h).0 in omega (arith, low)), range_rises (a + 1) n)

filter_step : (p : ℕ → Bool) (x : ℕ) (xs : List ℕ) (b : Bool) → ((y : ℕ) → Has xs y → x < y) → Ascends (filter p xs) → Ascends (cond b (x ∷ filter p xs) (filter p xs))
filter_step p x xs true low h = ((λ y q. low y (in_filter p y xs q).0), h)
filter_step p x xs false low h = h

pub filter_rises : (p : ℕ → Bool) (xs : List ℕ) → Ascends xs → Ascends (filter p xs)
filter_rises p [] h = tt
filter_rises p (x ∷ xs) h = filter_step p x xs (p x) h.0 (filter_rises p xs h.1)

pub classes_rise : (held : Held) (t : Tests) (u : ℕ) → Ascends (classes_of held t (sort u))
classes_rise held t u = filter_rises (λ n. is_term_of_sort held u n && is_oldest t n) _ (range_rises 0 _)

alone_rise : (classes : List ℕ) → All Ascends (map (λ (c : ℕ). c ∷ []) classes)
alone_rise classes = all_from Ascends (map (λ (c : ℕ). c ∷ []) classes) (λ r q. let m = mapped_has (λ (c : ℕ). c ∷ []) classes r q in subst Ascends m.is (λ y h. absurd h, tt))

pub region_rises : (apart : ℕ → ℕ → Bool) (classes : List ℕ) (k : ℕ) → Ascends classes → Ascends (first_large k (grown_regions apart classes k))
region_rises apart classes k rises = first_grown Ascends apart classes k (λ r s. filter_rises (λ c. is_in r c || is_in s c) classes rises) tt (alone_rise classes)

test_rises : (held : Held) (t : Tests) (u k : ℕ) (pick : Pick) → IsTest t (classes_of held t (sort u)) k pick → Ascends pick.terms
test_rises held t u k pick h =
    let classes = classes_of held t (sort u) in
    let region = first_large k (grown_regions t.apart classes k) in
    let p : ℕ → Bool = λ y. list_any (λ z. z == y) pick.terms in
    let same : filter p region ≡ pick.terms = (bytes_eq-Decides (filter p region) pick.terms).0 h.among in
    subst Ascends same (filter_rises p region (region_rises t.apart classes k (classes_rise held t u)))

pick_rises : (held : Held) (t : Tests) (u : ℕ) (o : Option ℕ) (p : Option Pick) (pick : Pick) → p ≡ Some pick → IsPickAt t (classes_of held t (sort u)) o p → Ascends pick.terms
pick_rises held t u None p pick e h = absurd (cc (sym h ∙ e))
pick_rises held t u (Some k) None pick e h = absurd (cc e)
pick_rises held t u (Some k) (Some q) pick e h = let same : q ≡ pick = cc e in subst (λ (x : Pick). Ascends x.terms) same (test_rises held t u k q h.1)

picks_rise : (s : State) (t : Tests) (v : ℕ) (ps : List (Option Pick)) → ArePicks s t v ps → (i : ℕ) (pick : Pick) → slice_get ps i ≡ Some (Some pick) → Ascends pick.terms
picks_rise s t v [] h i pick e = absurd (cc e)
picks_rise s t v (p ∷ ps) h zero pick e = pick_rises s.held t v (least_true s v) p pick (cc e) h.0
picks_rise s t v (p ∷ ps) h (suc i) pick e = picks_rise s t (v + 1) ps h.1 i pick e

abbrev pub PicksRise : State → Type 0
PicksRise s = (u : ℕ) (pick : Pick) → slice_get s.picks u ≡ Some (Some pick) → Ascends pick.terms

settled_rise : (mid t : State) → Settles mid t → PicksRise t
settled_rise mid t m u pick e = picks_rise mid m.known.regions 0 m.picks m.are_picks u pick (subst (λ (x : State). slice_get x.picks u ≡ Some (Some pick)) m.after e)

run_rise : (p : Problem) (b : Budget) (s : State) (es : List Event) (t : State) → PicksRise s → Run p b s es t → PicksRise t
run_rise p b s [] t h r = subst PicksRise (sym r) h
run_rise p b s (e ∷ es) t h r = run_rise p b r.0 es t (settled_rise r.1.move.mid r.0 r.1.move.settles) r.3

pub reached_rise : (p : Problem) (b : Budget) (events : List Event) (s : State) → IsReached p b events s → PicksRise s
reached_rise p b events s h = run_rise p b h.first events s (settled_rise _ h.first h.start) h.run
