-- Where a normal form is true, the reading has an expansion by the proxies in which the clauses hold.
use Rattle.std.proofs.Common.{◌≡◌, ℕ, ◌+◌, ◌≤◌, Bool, true, false, ◌&&◌, ◌||◌, List, [], ◌∷◌, ◌++◌, length, ap, refl, subst, ◌∙◌, arith, inl, inr, length-append}
use Rattle.std.proofs.lemmas.Bool.{or_cases, or_left, or_right, and_parts}
use Rattle.std.proofs.lemmas.List.Folds.{list_any-append}
use Rattle.fm_base.specs.Interpretations.{Reading}
use Rattle.fm_base.specs.Models.{IsElements}
use Rattle.fm_base.specs.Truth.{Truth, all_true, some_true, block}
use Rattle.fm_base.specs.declared.ids.SortId.{SortId}
use Rattle.fm_base.proofs.Quantified.{every_tuple}
use Rattle.fm_bank.specs.Clauses.{ClauseHolds, Satisfies, lits_true, plit_true}
use Rattle.fm_bank.specs.declared.clause.Plit.{Plit}
use Rattle.fm_base.specs.Expansions.{Symbols, Agree, RanksFit, with_symbols}
use Rattle.fm_clauses.proofs.Literals.{LocalLits, local_lits_both, local_lits_more}
use Rattle.fm_clauses.proofs.Given.{Steady, steady_more, Implies}
use Rattle.fm_clauses.proofs.Lists.{satisfies_parts, satisfies_both, or_weaken}
use Rattle.fm_clauses.proofs.Narrowing.{AreInhabited, wide_from_clause, clause_from_wide}
use Rattle.fm_clauses.specs.Narrow.{clause_of}
use Rattle.fm_clauses.specs.Table.{Made, Maker, Part, Node, nothing, run_all, run_each, run_literal}
use Rattle.fm_nnf.proofs.Locals.{Local, Locals, agree_less, agree_chain, local_more, local_all_true, fits_along, fits_both}
use Rattle.fm_nnf.proofs.Tuples.{elements_length}

-- an expansion in which the clauses made hold, and they hold in all that agree with it
pub record Got (size : ℕ → ℕ) (a : Symbols) (next : ℕ) (made : Made) : Type 0 where
  pub at : Symbols
  pub agrees : Agree next a at
  pub fits : RanksFit (with_symbols size at) next made.1
  pub same : (b c : Symbols) → Agree (next + length made.1) b c → Satisfies (with_symbols size b) made.0 → Satisfies (with_symbols size c) made.0
  pub holds : Satisfies (with_symbols size at) made.0

pub got_nothing : (size : ℕ → ℕ) (a : Symbols) (next : ℕ) → Got size a next nothing
got_nothing size a next = record { at = a; agrees = λ f xs lt. refl; fits = tt; same = λ b c agree h. tt; holds = tt }

pub got_both : (size : ℕ → ℕ) (a : Symbols) (next : ℕ) (x y : Made) → (one : Got size a next x) → Got size one.at (next + length x.1) y → Got size a next (x.0 ++ y.0, x.1 ++ y.1)
got_both size a next x y one two =
    let n = length-append x.1 y.1 in
    record {
      at = two.at;
      agrees = agree_chain next a one.at two.at one.agrees (agree_less next (next + length x.1) one.at two.at (omega arith) two.agrees);
      fits = fits_both (with_symbols size two.at) next x.1 y.1 (fits_along size one.at two.at (next + length x.1) next x.1 (omega arith) two.agrees one.fits) two.fits;
      same = λ b c agree h.
          let p = satisfies_parts (with_symbols size b) x.0 y.0 h in
          satisfies_both (with_symbols size c) x.0 y.0 (one.same b c (agree_less (next + length x.1) (next + length (x.1 ++ y.1)) b c (omega (arith, n)) agree) p.0) (two.same b c (agree_less (next + length x.1 + length y.1) (next + length (x.1 ++ y.1)) b c (omega (arith, n)) agree) p.1);
      holds = satisfies_both (with_symbols size two.at) x.0 y.0 (one.same one.at two.at two.agrees one.holds) two.holds;
    }

-- a clause whose literals read the symbols below n alone
pub clause_same : (size : ℕ → ℕ) (n : ℕ) (scope : List SortId) (lits : List Plit) → AreInhabited size scope → LocalLits n lits → (b c : Symbols) → Agree n b c → ClauseHolds (with_symbols size b) (clause_of scope lits) → ClauseHolds (with_symbols size c) (clause_of scope lits)
clause_same size n scope lits some local b c agree h =
    clause_from_wide (with_symbols size c) scope lits some (λ env at. local size b c env agree ∙ wide_from_clause (with_symbols size b) scope lits h env at)

-- what a maker gives where the literals so far or the meaning is true
abbrev pub Full : (ℕ → ℕ) → ℕ → Maker → Truth → Type 0
Full size bound k t = (a : Symbols) (scope : List SortId) (sofar : List Plit) (next : ℕ) → bound ≤ next → AreInhabited size scope → LocalLits next sofar → ((b : Symbols) → Steady (with_symbols size b) scope sofar)
    → ((env : List ℕ) → IsElements (with_symbols size a) scope env → (lits_true (with_symbols size a) env sofar || t (with_symbols size a) env) ≡ true) → Got size a next (k scope sofar next)

abbrev pub PartFull : (ℕ → ℕ) → ℕ → Part → Truth → Type 0
PartFull size bound (Part.Plain l) t = Local bound (λ m env. plit_true m env l) × Implies t (λ m env. plit_true m env l)
PartFull size bound Part.Always t = Unit {0}
PartFull size bound (Part.Other k) t = Full size bound k t × Local bound t

abbrev pub PartsFull : (ℕ → ℕ) → ℕ → List Part → List Truth → Type 0
PartsFull size bound [] [] = Unit {0}
PartsFull size bound [] (t ∷ ts) = ⊥
PartsFull size bound (p ∷ ps) [] = ⊥
PartsFull size bound (p ∷ ps) (t ∷ ts) = PartFull size bound p t × PartsFull size bound ps ts

pub record NodeFull (size : ℕ → ℕ) (bound : ℕ) (x : Node) (t : Truth) : Type 0 where
  pub run : Full size bound x.run t
  pub local : Local bound t
  pub truths : List Truth
  pub parts : PartsFull size bound x.parts truths
  pub whole : Implies t (some_true truths)

abbrev pub NodesFull : (ℕ → ℕ) → ℕ → List Node → List Truth → Type 0
NodesFull size bound [] [] = Unit {0}
NodesFull size bound [] (t ∷ ts) = ⊥
NodesFull size bound (x ∷ xs) [] = ⊥
NodesFull size bound (x ∷ xs) (t ∷ ts) = NodeFull size bound x t × NodesFull size bound xs ts

pub strengthen : (size : ℕ → ℕ) (bound : ℕ) (k : Maker) (t u : Truth) → Implies t u → Full size bound k u → Full size bound k t
strengthen size bound k t u f full a scope sofar next le some local steady h =
    full a scope sofar next le some local steady (λ env at. or_weaken (lits_true (with_symbols size a) env sofar) (t (with_symbols size a) env) (u (with_symbols size a) env) (f (with_symbols size a) env) (h env at))

pub full_literal : (size : ℕ → ℕ) (bound : ℕ) (l : Plit) → Local bound (λ m env. plit_true m env l) → Full size bound (run_literal l) (λ m env. plit_true m env l)
full_literal size bound l is a scope sofar next le some local steady h =
    let all = local_lits_both next sofar (l ∷ []) local (local_lits_more next l [] (local_more bound next (λ m env. plit_true m env l) le is) (λ size' b c env agree. refl)) in
    record {
      at = a;
      agrees = λ f xs lt. refl;
      fits = tt;
      same = λ b c agree sat. (clause_same size next scope (sofar ++ l ∷ []) some all b c (agree_less next (next + 0) b c (omega arith) agree) sat.0, tt);
      holds = (clause_from_wide (with_symbols size a) scope (sofar ++ l ∷ []) some (λ env at. list_any-append (plit_true (with_symbols size a) env) sofar (l ∷ []) ∙ or_weaken (lits_true (with_symbols size a) env sofar) (plit_true (with_symbols size a) env l) (plit_true (with_symbols size a) env l || false) (λ e. or_left (plit_true (with_symbols size a) env l) false e) (h env at)), tt);
    }

or_and_left : (s a b : Bool) → (s || (a && b)) ≡ true → (s || a) ≡ true
or_and_left true a b h = refl
or_and_left false a b h = (and_parts a b h).0

or_and_right : (s a b : Bool) → (s || (a && b)) ≡ true → (s || b) ≡ true
or_and_right true a b h = refl
or_and_right false a b h = (and_parts a b h).1

pub nodes_local : (size : ℕ → ℕ) (bound : ℕ) (xs : List Node) (ts : List Truth) → NodesFull size bound xs ts → Locals bound ts
nodes_local size bound [] [] full = tt
nodes_local size bound [] (t ∷ ts) full = absurd full
nodes_local size bound (x ∷ xs) [] full = absurd full
nodes_local size bound (x ∷ xs) (t ∷ ts) full = (full.0.local, nodes_local size bound xs ts full.1)

pub full_all : (size : ℕ → ℕ) (bound : ℕ) (xs : List Node) (ts : List Truth) → NodesFull size bound xs ts → Full size bound (run_all xs) (all_true ts)
full_all size bound [] [] full a scope sofar next le some local steady h = got_nothing size a next
full_all size bound [] (t ∷ ts) full a scope sofar next le some local steady h = absurd full
full_all size bound (x ∷ xs) [] full a scope sofar next le some local steady h = absurd full
full_all size bound (x ∷ xs) (t ∷ ts) full a scope sofar next le some local steady h =
    let made = x.run scope sofar next in
    let n = next + length made.1 in
    let one = full.0.run a scope sofar next le some local steady (λ env at. or_and_left (lits_true (with_symbols size a) env sofar) (t (with_symbols size a) env) (all_true ts (with_symbols size a) env) (h env at)) in
    let rest = local_all_true bound ts (nodes_local size bound xs ts full.1) in
    let two = full_all size bound xs ts full.1 one.at scope sofar n (omega arith) some (local_more next n (λ m env. lits_true m env sofar) (omega arith) local) steady (λ env at.
    let old = or_and_right (lits_true (with_symbols size a) env sofar) (t (with_symbols size a) env) (all_true ts (with_symbols size a) env) (h env at) in
    let s = local size a one.at env one.agrees in
    let r = rest size a one.at env (agree_less bound next a one.at le one.agrees) in
    (λ i. s i || r i) ∙ old) in
    got_both size a next made (run_all xs scope sofar n) one two

pub record Split (m : Reading) (scope vars : List SortId) (whole : List ℕ) : Type 0 where
  pub env : List ℕ
  pub xs : List ℕ
  pub is : env ++ xs ≡ whole
  pub outer : IsElements m scope env
  pub inner : IsElements m vars xs

elements_split : (m : Reading) (scope vars : List SortId) (whole : List ℕ) → IsElements m (scope ++ vars) whole → Split m scope vars whole
elements_split m [] vars whole h = record { env = []; xs = whole; is = refl; outer = tt; inner = h }
elements_split m (s ∷ ss) vars [] h = absurd h
elements_split m (s ∷ ss) vars (x ∷ whole) h =
    let rest = elements_split m ss vars whole h.1 in
    record { env = x ∷ rest.env; xs = rest.xs; is = ap (λ (ys : List ℕ). x ∷ ys) rest.is; outer = (h.0, rest.outer); inner = rest.inner }

inhabited_both : (size : ℕ → ℕ) (scope vars : List SortId) → AreInhabited size scope → AreInhabited size vars → AreInhabited size (scope ++ vars)
inhabited_both size [] vars p q = q
inhabited_both size (s ∷ ss) vars p q = (p.0, inhabited_both size ss vars p.1 q)

pub full_each : (size : ℕ → ℕ) (bound : ℕ) (vars : List SortId) (k : Maker) (t : Truth) → AreInhabited size vars → Full size bound k t → Full size bound (run_each vars k) (λ m env. block m true vars (λ inner. t m inner) env)
full_each size bound vars k t there full a scope sofar next le some local steady h =
    full a (scope ++ vars) sofar next le (inhabited_both size scope vars some there) local (λ b. steady_more (with_symbols size b) scope vars sofar (steady b)) (λ whole at.
    let m = with_symbols size a in
    let w = elements_split m scope vars whole at in
    let n = elements_length m scope w.env w.outer in
    let s : lits_true m (w.env ++ w.xs) sofar ≡ lits_true m w.env sofar = steady a w.env w.xs (omega (arith, n)) in
    subst (λ (ys : List ℕ). (lits_true m ys sofar || t m ys) ≡ true) w.is
    (elim (or_cases (lits_true m w.env sofar) (block m true vars (λ inner. t m inner) w.env) (h w.env w.outer)) [
      | inl e ↦ or_left (lits_true m (w.env ++ w.xs) sofar) (t m (w.env ++ w.xs)) (s ∙ e)
      | inr e ↦ or_right (lits_true m (w.env ++ w.xs) sofar) (t m (w.env ++ w.xs)) (every_tuple m vars (λ inner. t m inner) w.env e w.xs w.inner)
    ]))
