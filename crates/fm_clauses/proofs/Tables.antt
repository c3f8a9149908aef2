-- The clause table of assertions says what they say.
use Rattle.std.proofs.Common.{◌≡◌, ℕ, zero, suc, ◌+◌, ◌<◌, ◌≤◌, Bool, true, false, cond, List, [], ◌∷◌, ◌++◌, length, Some, ap, refl, sym, subst, ◌∙◌, arith, length-append, append_assoc}
use Rattle.std.specs.Prelude.{slice_get, nat_lt}
use Rattle.std.proofs.lemmas.Bool.{lt-ltb, le-ltb}
use Rattle.std.proofs.lemmas.List.{append-nil}
use Rattle.fm_base.specs.Expansions.{Agree, RanksFit, Symbols, with_symbols}
use Rattle.fm_base.specs.Interpretations.{Reading, IsInterpretation, values_of}
use Rattle.fm_base.specs.Truth.{truth, is_closed}
use Rattle.fm_base.specs.declared.signature.Rank.{Rank}
use Rattle.fm_base.specs.declared.signature.Sig.{Sig}
use Rattle.fm_base.specs.declared.formula.Formula.{Formula}
use Rattle.fm_bank.specs.Clauses.{Satisfies}
use Rattle.fm_nnf.specs.LiftLaw.{AllHold, AreReady, with_ranks}
use Rattle.fm_nnf.specs.Lifting.{lifted}
use Rattle.fm_nnf.specs.NormalForm.{normal}
use Rattle.fm_nnf.specs.NormalLaw.{IsPlainOver}
use Rattle.fm_nnf.specs.Plain.{is_plain}
use Rattle.fm_nnf.proofs.Coincidence.{Extends, coincides}
use Rattle.fm_nnf.proofs.Forming.{fits_split}
use Rattle.fm_nnf.proofs.Joined.{grow_both, grow_extends, hold_along, interprets_more, ready_more}
use Rattle.fm_nnf.proofs.Lifts.{lifting, lifting_ready}
use Rattle.fm_nnf.proofs.Locals.{agree_chain, agree_less, fits_along}
use Rattle.fm_nnf.proofs.Norms.{norm, norm_within}
use Rattle.fm_clauses.specs.Assertions.{after, assertion_made, assertions_made, clause_table, constant_of, form_made, forms_made, fresh_constants, has_ground}
use Rattle.fm_clauses.specs.Table.{Made, clauses_of_normal, nothing}
use Rattle.fm_clauses.specs.TableLaw.{ExpandsToTable}
use Rattle.fm_clauses.proofs.Lists.{satisfies_parts}
use Rattle.fm_clauses.proofs.Proxies.{clauses_expand, say_the_same}
use Rattle.fm_clauses.proofs.Reached.{Got, got_both, got_nothing}

-- what is made says what W says: there is an expansion where W holds, and W holds where the clauses do
pub record Turns (now : Sig) (next : ℕ) (W : Reading → Type 0) (made : Made) : Type 0 where
  pub complete : (size : ℕ → ℕ) (a : Symbols) → IsInterpretation now (with_symbols size a) → W (with_symbols size a) → Got size a next made
  pub sound : (size : ℕ → ℕ) (a : Symbols) → IsInterpretation now (with_symbols size a) → RanksFit (with_symbols size a) next made.1 → Satisfies (with_symbols size a) made.0 → W (with_symbols size a)

-- W reads the symbols of the signature alone
abbrev pub Moves : Sig → (Reading → Type 0) → Type 0
Moves now W = (size : ℕ → ℕ) (a b : Symbols) → Agree (length now.ranks) a b → W (with_symbols size a) → W (with_symbols size b)

turns_nothing : (now : Sig) (next : ℕ) → Turns now next (λ m. Unit {0}) nothing
turns_nothing now next = record { complete = λ size a is was. got_nothing size a next; sound = λ size a is fits sat. tt }

turns_both : (now : Sig) (next : ℕ) (W V : Reading → Type 0) (x y : Made) → next ≡ length now.ranks → Moves now V → Turns now next W x → Turns (with_ranks now x.1) (next + length x.1) V y → Turns now next (λ m. W m × V m) (x.0 ++ y.0, x.1 ++ y.1)
turns_both now next W V x y e moves one two =
    record {
      complete = λ size a is was.
          let first = one.complete size a is was.0 in
          let agree : Agree (length now.ranks) a first.at = agree_less (length now.ranks) next a first.at (omega (arith, e)) first.agrees in
          let fits = subst (λ (n : ℕ). RanksFit (with_symbols size first.at) n x.1) e first.fits in
          got_both size a next x y first (two.complete size first.at (interprets_more now size a first.at x.1 is agree fits) (moves size a first.at agree was.1));
      sound = λ size a is fits sat.
          let f = fits_split (with_symbols size a) next x.1 y.1 fits in
          let s = satisfies_parts (with_symbols size a) x.0 y.0 sat in
          let more = interprets_more now size a a x.1 is (λ g xs lt. refl) (subst (λ (n : ℕ). RanksFit (with_symbols size a) n x.1) e f.0) in
          (one.sound size a is f.0 s.0, two.sound size a more f.1 s.1);
    }

abbrev Holds : Formula → Reading → Type 0
Holds f m = truth f m [] ≡ true

turns_form : (now : Sig) (next : ℕ) (f : Formula) → next ≡ length now.ranks → is_closed f now ≡ true → is_plain f ≡ true → Turns now next (Holds f) (form_made f next)
turns_form now next f e closed plain =
    let n = normal f next in
    let k = next + length n.1 in
    let over : IsPlainOver now f next = record { closed = closed; plain = plain; after = omega (arith, e) } in
    let within = norm_within now f next over in
    record {
      complete = λ size a is was.
          let x = (norm now f next (with_symbols size a) over is).0 was in
          let first : Got size a next ([], n.1) = record { at = x.expansion.at; agrees = x.expansion.agrees; fits = x.expansion.fits; same = λ b c agree h. tt; holds = tt } in
          got_both size a next ([], n.1) (clauses_of_normal n.0 k) first (clauses_expand n.0 k now.sorts size x.expansion.at within is.inhabited x.holds);
      sound = λ size a is fits sat.
          let p = fits_split (with_symbols size a) next n.1 (clauses_of_normal n.0 k).1 fits in
          let tree = (say_the_same n.0 k now.sorts (with_symbols size a) within is.inhabited).1 (record { expansion = record { at = a; agrees = λ g xs lt. refl; fits = p.1 }; satisfies = sat }) in
          (norm now f next (with_symbols size a) over is).1 (record { expansion = record { at = a; agrees = λ g xs lt. refl; fits = p.0 }; holds = tree });
    }

turns_forms : (now : Sig) (next : ℕ) (fs : List Formula) → next ≡ length now.ranks → AreReady now fs → Turns now next (λ m. AllHold m fs) (forms_made fs next)
turns_forms now next [] e ready = turns_nothing now next
turns_forms now next (f ∷ fs) e ready =
    let one = form_made f next in
    let more = with_ranks now one.1 in
    let l = length-append now.ranks one.1 in
    let rest = turns_forms more (next + length one.1) fs (omega (arith, e, l)) (ready_more now more fs (grow_extends now one.1) ready.2) in
    turns_both now next (Holds f) (λ m. AllHold m fs) one (forms_made fs (next + length one.1)) e (λ size a b agree h. hold_along now size a b fs ready.2 agree h) (turns_form now next f e ready.0 ready.1) rest

-- an assertion over the signature, where other symbols may stand behind its own
turns_lifted : (sig : Sig) (made : List Rank) (f : Formula) → is_closed f sig ≡ true → let now = with_ranks sig made in Turns now (length now.ranks) (Holds f) (assertion_made sig f (length now.ranks))
turns_lifted sig made f closed =
    let now = with_ranks sig made in
    let next = length now.ranks in
    let l = lifted sig f next in
    let more = with_ranks now l.ranks in
    let all = l.made ∷ l.definitions in
    let n = next + length l.ranks in
    let forms = forms_made all n in
    let len = length-append now.ranks l.ranks in
    let rest = turns_forms more n all (sym len) (lifting_ready sig made f closed) in
    record {
      complete = λ size a is was.
          let x = (lifting sig made f (with_symbols size a) closed is).0 was in
          let at = x.expansion.at in
          let first : Got size a next ([], l.ranks) = record { at = at; agrees = x.expansion.agrees; fits = x.expansion.fits; same = λ b c agree h. tt; holds = tt } in
          let second = rest.complete size at (interprets_more now size a at l.ranks is x.expansion.agrees x.expansion.fits) (x.holds, x.defined) in
          got_both size a next ([], l.ranks) forms first second;
      sound = λ size a is fits sat.
          let p = fits_split (with_symbols size a) next l.ranks forms.1 fits in
          let h = rest.sound size a (interprets_more now size a a l.ranks is (λ g xs lt. refl) p.0) p.1 sat in
          (lifting sig made f (with_symbols size a) closed is).1 (record { expansion = record { at = a; agrees = λ g xs lt. refl; fits = p.0 }; holds = h.0; defined = h.1 });
    }

abbrev pub AllClosed : Sig → List Formula → Type 0
AllClosed sig [] = Unit {0}
AllClosed sig (f ∷ fs) = (is_closed f sig ≡ true) × AllClosed sig fs

moves_closed : (sig : Sig) (made : List Rank) (fs : List Formula) → AllClosed sig fs → Moves (with_ranks sig made) (λ m. AllHold m fs)
moves_closed sig made [] closed size a b agree h = tt
moves_closed sig made (f ∷ fs) closed size a b agree h =
    let l = length-append sig.ranks made in
    ((coincides sig f [] closed.0).local size a b [] (agree_less (length sig.ranks) (length (sig.ranks ++ made)) a b (omega (arith, l)) agree) ∙ h.0, moves_closed sig made fs closed.1 size a b agree h.1)

turns_assertions : (sig : Sig) (made : List Rank) (next : ℕ) (fs : List Formula) → next ≡ length (sig.ranks ++ made) → AllClosed sig fs → Turns (with_ranks sig made) next (λ m. AllHold m fs) (assertions_made sig fs next)
turns_assertions sig made next [] e closed = turns_nothing (with_ranks sig made) next
turns_assertions sig made next (f ∷ fs) e closed =
    let now = with_ranks sig made in
    let one = assertion_made sig f next in
    let first : Turns now next (Holds f) one = subst (λ (n : ℕ). Turns now n (Holds f) (assertion_made sig f n)) (sym e) (turns_lifted sig made f closed.0) in
    let n = next + length one.1 in
    let grown = grow_both sig made one.1 in
    let l = length-append (sig.ranks ++ made) one.1 in
    let k = ap length (append_assoc sig.ranks made one.1) in
    let rest = turns_assertions sig (made ++ one.1) n fs (omega (arith, e, l, k)) closed.1 in
    let second : Turns (with_ranks now one.1) n (λ m. AllHold m fs) (assertions_made sig fs n) = subst (λ (s : Sig). Turns s n (λ m. AllHold m fs) (assertions_made sig fs n)) (sym grown) rest in
    turns_both now next (Holds f) (λ m. AllHold m fs) one (assertions_made sig fs n) e (moves_closed sig made fs closed.1) first second

-- constants may be any element, as 0
below_or_zero : Symbols → ℕ → Symbols
below_or_zero a n f xs = cond (nat_lt f n) (a f xs) 0

zero_below : (a : Symbols) (n : ℕ) → Agree n a (below_or_zero a n)
unfolding below_or_zero
zero_below a n f xs lt = ap (λ (b : Bool). cond b (a f xs) 0) (lt-ltb f n lt)

zero_above : (a : Symbols) (n f : ℕ) (xs : List ℕ) → n ≤ f → below_or_zero a n f xs ≡ 0
unfolding below_or_zero
zero_above a n f xs le = ap (λ (b : Bool). cond b (a f xs) 0) (le-ltb f n le)

abbrev AreConstants : ℕ → List Rank → Type 0
AreConstants sorts [] = Unit {0}
AreConstants sorts (r ∷ rs) = ((m : Reading) → ((s : ℕ) → s < sorts → 0 < m.size s) → 0 < values_of m r.result) × AreConstants sorts rs

constants_both : (sorts : ℕ) (rs qs : List Rank) → AreConstants sorts rs → AreConstants sorts qs → AreConstants sorts (rs ++ qs)
constants_both sorts [] qs p q = q
constants_both sorts (r ∷ rs) qs p q = (p.0, constants_both sorts rs qs p.1 q)

fresh_are_constants : (sorts n : ℕ) (has : ℕ → Bool) → n ≤ sorts → AreConstants sorts (fresh_constants n has)
unfolding fresh_constants
fresh_are_constants sorts zero has le = tt
fresh_are_constants sorts (suc n) has le = constants_both sorts (fresh_constants n has) (cond (has n) [] (constant_of n ∷ [])) (fresh_are_constants sorts n has (omega arith)) (last (has n))
  where
    last : (b : Bool) → AreConstants sorts (cond b [] (constant_of n ∷ []))
    last true = tt
    last false = ((λ m some. some n (omega arith)), tt)

constants_fit : (sorts : ℕ) (size : ℕ → ℕ) (b : Symbols) (n p : ℕ) (rs : List Rank) → AreConstants sorts rs → ((s : ℕ) → s < sorts → 0 < size s) → ((f : ℕ) (xs : List ℕ) → n ≤ f → b f xs ≡ 0) → n ≤ p → RanksFit (with_symbols size b) p rs
constants_fit sorts size b n p [] h some zeros le = tt
constants_fit sorts size b n p (r ∷ rs) h some zeros le =
    ((λ xs t. subst (λ (v : ℕ). v < values_of (with_symbols size b) r.result) (sym (zeros p xs le)) (h.0 (with_symbols size b) some)), constants_fit sorts size b n (p + 1) rs h.1 some zeros (omega arith))

-- an interpretation of more symbols is one of fewer, and its further symbols fit their ranks
narrower : (sig big : Sig) (m : Reading) → Extends sig big → IsInterpretation big m → IsInterpretation sig m
narrower sig big m more is = record { inhabited = λ s lt. is.inhabited s (subst (λ (n : ℕ). s < n) (sym more.sorts) lt); closed = λ f r xs e t. is.closed f r xs (more.ranks f r e) t }

extends_two : (sig : Sig) (rs qs : List Rank) → Extends sig (with_ranks (with_ranks sig rs) qs)
extends_two sig rs qs = let x = grow_extends sig rs in let y = grow_extends (with_ranks sig rs) qs in record { sorts = refl; ranks = λ f r e. y.ranks f r (x.ranks f r e) }

fit_ranks : (m : Reading) (big : Sig) (n : ℕ) (before rs after : List Rank) → big.ranks ≡ before ++ (rs ++ after) → n ≡ length before → IsInterpretation big m → RanksFit m n rs
fit_ranks m big n before [] after e l is = tt
fit_ranks m big n before (r ∷ rs) after e l is =
    let a = append_assoc before (r ∷ []) (rs ++ after) in
    let la = length-append before (r ∷ []) in
    let here : slice_get big.ranks n ≡ Some r = (λ i. slice_get (e i) (l i)) ∙ seam before r (rs ++ after) in
    ((λ xs t. is.closed n r xs here t), fit_ranks m big (n + 1) (before ++ r ∷ []) rs after (e ∙ sym a) (omega (arith, l, la)) is)
  where
    seam : (pre : List Rank) (x : Rank) (xs : List Rank) → slice_get (pre ++ x ∷ xs) (length pre) ≡ Some x
    seam [] x xs = refl
    seam (y ∷ pre) x xs = seam pre x xs

-- without other symbols
turns_all : (sig : Sig) (fs : List Formula) → AllClosed sig fs → Turns sig (length sig.ranks) (λ m. AllHold m fs) (assertions_made sig fs (length sig.ranks))
turns_all sig fs closed =
    let nothing_more : with_ranks sig [] ≡ sig = λ i. record { sorts = sig.sorts; ranks = append-nil sig.ranks i } in
    subst (λ (s : Sig). Turns s (length sig.ranks) (λ m. AllHold m fs) (assertions_made sig fs (length sig.ranks))) nothing_more (turns_assertions sig [] (length sig.ranks) fs (ap length (sym (append-nil sig.ranks))) closed)

pub table_expands : (sig : Sig) (fs : List Formula) (m : Reading) → AllClosed sig fs → IsInterpretation sig m → AllHold m fs → ExpandsToTable sig (clause_table sig fs) m
table_expands sig fs m closed is was =
    let next = length sig.ranks in
    let made = assertions_made sig fs next in
    let symbols = with_ranks sig made.1 in
    let fresh = fresh_constants sig.sorts (has_ground symbols made.0) in
    let size = m.size in
    let len = length-append sig.ranks made.1 in
    let n = length symbols.ranks in
    let got = (turns_all sig fs closed).complete size m.at is was in
    let at = below_or_zero got.at n in
    let agree : Agree n got.at at = zero_below got.at n in
    let old : Agree next m.at at = agree_chain next m.at got.at at got.agrees (agree_less next n got.at at (omega (arith, len)) agree) in
    let fits = fits_along size got.at at n next made.1 (omega (arith, len)) agree got.fits in
    let ok = interprets_more sig size m.at at made.1 is old fits in
    record {
      at = at;
      agrees = old;
      interprets = interprets_more symbols size at at fresh ok (λ g xs lt. refl)
          (constants_fit sig.sorts size at n n fresh (fresh_are_constants sig.sorts sig.sorts (has_ground symbols made.0) (omega arith)) is.inhabited (λ f xs le. zero_above got.at n f xs le) (omega arith));
      satisfies = got.same got.at at (agree_less (next + length made.1) n got.at at (omega (arith, len)) agree) got.holds;
    }

pub table_holds : (sig : Sig) (fs : List Formula) (m : Reading) → AllClosed sig fs → ExpandsToTable sig (clause_table sig fs) m → AllHold m fs
table_holds sig fs m closed e =
    let next = length sig.ranks in
    let made = assertions_made sig fs next in
    let symbols = with_ranks sig made.1 in
    let fresh = fresh_constants sig.sorts (has_ground symbols made.0) in
    let big = with_ranks symbols fresh in
    let n = with_symbols m.size e.at in
    let over : IsInterpretation sig n = narrower sig big n (extends_two sig made.1 fresh) e.interprets in
    let fits = fit_ranks n big next sig.ranks made.1 fresh (append_assoc sig.ranks made.1 fresh) refl e.interprets in
    let held = (turns_all sig fs closed).sound m.size e.at over fits e.satisfies in
    moves_back sig fs closed e.at m.at (λ f xs lt. sym (e.agrees f xs lt)) held
  where
    moves_back : (s : Sig) (gs : List Formula) → AllClosed s gs → (a b : Symbols) → Agree (length s.ranks) a b → AllHold (with_symbols m.size a) gs → AllHold (with_symbols m.size b) gs
    moves_back s [] c a b agree h = tt
    moves_back s (g ∷ gs) c a b agree h = ((coincides s g [] c.0).local m.size a b [] agree ∙ h.0, moves_back s gs c.1 a b agree h.1)
