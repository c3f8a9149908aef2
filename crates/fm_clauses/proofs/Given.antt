-- Where the clauses of a normal form hold, the normal form is true.
use Rattle.std.proofs.Common.{◌≡◌, ℕ, ◌+◌, ◌≤◌, Bool, true, false, ◌||◌, not, cond, List, [], ◌∷◌, ◌++◌, length, map, ap, refl, sym, subst, ◌∙◌, arith, inl, inr, length-append}
use Rattle.std.specs.Prelude.{◌==◌}
use Rattle.std.proofs.lemmas.Bool.{cases_Bool, or_cases, or_left, or_right, false≢true, both_ways}
use Rattle.std.proofs.lemmas.List.Folds.{list_any-append}
use Rattle.fm_base.specs.Interpretations.{Reading}
use Rattle.fm_base.specs.Models.{IsElements}
use Rattle.fm_base.specs.Truth.{Truth, all_true, some_true, block}
use Rattle.fm_base.specs.declared.ids.SortId.{SortId}
use Rattle.fm_base.specs.declared.formula.Patom.{Patom}
use Rattle.fm_base.specs.declared.formula.Nnf
use Rattle.fm_base.specs.declared.formula.Nnf.{Nnf}
use Rattle.fm_base.proofs.Quantified.{from_every_tuple}
use Rattle.fm_bank.specs.Clauses.{Satisfies, lits_true, plit_true, signed}
use Rattle.fm_bank.specs.declared.clause.Plit.{Plit}
use Rattle.fm_base.proofs.NormalTerms.{Each}
use Rattle.fm_clauses.proofs.Lists.{satisfies_parts, or_weaken, or_and, and_true}
use Rattle.fm_clauses.proofs.Narrowing.{wide_from_clause}
use Rattle.fm_clauses.specs.Narrow.{clause_of}
use Rattle.fm_clauses.specs.Table.{Made, Maker, Part, Node, node, node_step, and_node, all_parts, run_all, run_each, run_literal, run_some, heads, behind, proxy, proxy_ranks, has_always}
use Rattle.fm_nnf.proofs.Normals.{nnf_induction, fold_of_lit, fold_of_and, fold_of_or, fold_of_all}
use Rattle.fm_nnf.proofs.Tuples.{front_values, elements_length, elements_append}
use Rattle.fm_nnf.specs.NormalTruth.{nnf_true, nnf_step}

-- the literals read the variables of the scope alone
abbrev pub Steady : Reading → List SortId → List Plit → Type 0
Steady m scope lits = (env xs : List ℕ) → length scope ≤ length env → lits_true m (env ++ xs) lits ≡ lits_true m env lits

pub proxy_steady : (m : Reading) (positive : Bool) (scope : List SortId) (p : ℕ) → Steady m scope (proxy positive scope p ∷ [])
proxy_steady m positive scope p env xs le = ap (λ (vs : List ℕ). signed positive (m.at p vs == 1) || false) (front_values m 0 scope env xs (omega arith))

pub steady_more : (m : Reading) (scope vars : List SortId) (lits : List Plit) → Steady m scope lits → Steady m (scope ++ vars) lits
steady_more m scope vars lits steady env xs le = let e = length-append scope vars in steady env xs (omega (arith, e))

abbrev pub Given : Maker → Truth → Type 0
Given k t = (m : Reading) (scope : List SortId) (sofar : List Plit) (next : ℕ) → Steady m scope sofar → Satisfies m (k scope sofar next).0 → (env : List ℕ) → IsElements m scope env → (lits_true m env sofar || t m env) ≡ true

abbrev pub Implies : Truth → Truth → Type 0
Implies t u = (m : Reading) (env : List ℕ) → t m env ≡ true → u m env ≡ true

abbrev pub PartGiven : Part → Truth → Type 0
PartGiven (Part.Plain l) t = (m : Reading) (env : List ℕ) → plit_true m env l ≡ true → t m env ≡ true
PartGiven Part.Always t = (m : Reading) (env : List ℕ) → t m env ≡ true
PartGiven (Part.Other k) t = Given k t

abbrev pub PartsGiven : List Part → List Truth → Type 0
PartsGiven [] [] = Unit {0}
PartsGiven [] (t ∷ ts) = ⊥
PartsGiven (p ∷ ps) [] = ⊥
PartsGiven (p ∷ ps) (t ∷ ts) = PartGiven p t × PartsGiven ps ts

pub record NodeGiven (x : Node) (t : Truth) : Type 0 where
  pub run : Given x.run t
  pub truths : List Truth
  pub parts : PartsGiven x.parts truths
  pub whole : Implies (some_true truths) t

abbrev pub NodesGiven : List Node → List Truth → Type 0
NodesGiven [] [] = Unit {0}
NodesGiven [] (t ∷ ts) = ⊥
NodesGiven (x ∷ xs) [] = ⊥
NodesGiven (x ∷ xs) (t ∷ ts) = NodeGiven x t × NodesGiven xs ts

weaken : (k : Maker) (t u : Truth) → Implies t u → Given k t → Given k u
weaken k t u f g m scope sofar next steady sat env h = or_weaken (lits_true m env sofar) (t m env) (u m env) (f m env) (g m scope sofar next steady sat env h)

given_literal : (l : Plit) → Given (run_literal l) (λ m env. plit_true m env l)
given_literal l m scope sofar next steady sat env h =
    elim (or_cases (lits_true m env sofar) (plit_true m env l || false) (sym (list_any-append (plit_true m env) sofar (l ∷ [])) ∙ wide_from_clause m scope (sofar ++ l ∷ []) sat.0 env h)) [
      | inl s ↦ or_left (lits_true m env sofar) (plit_true m env l) s
      | inr s ↦ elim (or_cases (plit_true m env l) false s) [ inl t ↦ or_right (lits_true m env sofar) (plit_true m env l) t | inr f ↦ absurd (false≢true f) ]
    ]

given_all : (xs : List Node) (ts : List Truth) → NodesGiven xs ts → Given (run_all xs) (all_true ts)
given_all [] [] given m scope sofar next steady sat env h = or_right (lits_true m env sofar) true refl
given_all [] (t ∷ ts) given m scope sofar next steady sat env h = absurd given
given_all (x ∷ xs) [] given m scope sofar next steady sat env h = absurd given
given_all (x ∷ xs) (t ∷ ts) given m scope sofar next steady sat env h =
    let first = x.run scope sofar next in
    let parts = satisfies_parts m first.0 (run_all xs scope sofar (next + length first.1)).0 sat in
    or_and (lits_true m env sofar) (t m env) (all_true ts m env) (given.0.run m scope sofar next steady parts.0 env h) (given_all xs ts given.1 m scope sofar (next + length first.1) steady parts.1 env h)

given_each : (vars : List SortId) (k : Maker) (t : Truth) → Given k t → Given (run_each vars k) (λ m env. block m true vars (λ inner. t m inner) env)
given_each vars k t given m scope sofar next steady sat env h =
    elim (cases_Bool (lits_true m env sofar)) [
      | inl s ↦ or_left (lits_true m env sofar) (block m true vars (λ inner. t m inner) env) s
      | inr s ↦
          or_right (lits_true m env sofar) (block m true vars (λ inner. t m inner) env) (from_every_tuple m vars (λ inner. t m inner) env (λ xs at.
          let whole = given m (scope ++ vars) sofar next (steady_more m scope vars sofar steady) sat (env ++ xs) (elements_append m scope vars env xs h at) in
          let n = elements_length m scope env h in
          let out : lits_true m (env ++ xs) sofar ≡ false = steady env xs (omega (arith, n)) ∙ s in
          elim (or_cases (lits_true m (env ++ xs) sofar) (t m (env ++ xs)) whole) [ inl a ↦ absurd (both_ways (lits_true m (env ++ xs) sofar) out a) | inr b ↦ b ]))
    ]

-- under a true proxy the member is true
under_proxy : (b t : Bool) → b ≡ true → ((not b || false) || t) ≡ true → t ≡ true
under_proxy true t e h = h
under_proxy false t e h = absurd (false≢true e)

given_heads : (ps : List Part) (ts : List Truth) → PartsGiven ps ts → (m : Reading) (scope : List SortId) (p next : ℕ) → Satisfies m (behind ps scope p next).0 → (env : List ℕ) → IsElements m scope env → lits_true m env (heads ps scope p) ≡ true → some_true ts m env ≡ true
given_heads [] [] given m scope p next sat env h e = e
given_heads [] (t ∷ ts) given m scope p next sat env h e = absurd given
given_heads (q ∷ ps) [] given m scope p next sat env h e = absurd given
given_heads (Part.Plain l ∷ ps) (t ∷ ts) given m scope p next sat env h e =
    elim (or_cases (plit_true m env l) (lits_true m env (heads ps scope p)) e) [
      | inl a ↦ or_left (t m env) (some_true ts m env) (given.0 m env a)
      | inr b ↦ or_right (t m env) (some_true ts m env) (given_heads ps ts given.1 m scope p next sat env h b)
    ]
given_heads (Part.Always ∷ ps) (t ∷ ts) given m scope p next sat env h e = or_left (t m env) (some_true ts m env) (given.0 m env)
given_heads (Part.Other k ∷ ps) (t ∷ ts) given m scope p next sat env h e =
    let first = k scope (proxy false scope p ∷ []) next in
    let parts = satisfies_parts m first.0 (behind ps scope (p + 1) (next + length first.1)).0 sat in
    let said = given.0 m scope (proxy false scope p ∷ []) next (proxy_steady m false scope p) parts.0 env h in
    elim (or_cases (plit_true m env (proxy true scope p)) (lits_true m env (heads ps scope (p + 1))) e) [
      | inl a ↦ or_left (t m env) (some_true ts m env) (under_proxy (plit_true m env (proxy true scope p)) (t m env) a said)
      | inr b ↦ or_right (t m env) (some_true ts m env) (given_heads ps ts given.1 m scope (p + 1) (next + length first.1) parts.1 env h b)
    ]

given_always : (ps : List Part) (ts : List Truth) → PartsGiven ps ts → has_always ps ≡ true → (m : Reading) (env : List ℕ) → some_true ts m env ≡ true
given_always [] ts given e m env = absurd (false≢true e)
given_always (p ∷ ps) [] given e m env = absurd given
given_always (Part.Plain l ∷ ps) (t ∷ ts) given e m env = or_right (t m env) (some_true ts m env) (given_always ps ts given.1 e m env)
given_always (Part.Always ∷ ps) (t ∷ ts) given e m env = or_left (t m env) (some_true ts m env) (given.0 m env)
given_always (Part.Other k ∷ ps) (t ∷ ts) given e m env = or_right (t m env) (some_true ts m env) (given_always ps ts given.1 e m env)

given_some : (ps : List Part) (ts : List Truth) → PartsGiven ps ts → Given (run_some ps) (some_true ts)
given_some ps ts given m scope sofar next steady sat env h =
    elim (cases_Bool (has_always ps)) [
      | inl all ↦ or_right (lits_true m env sofar) (some_true ts m env) (given_always ps ts given all m env)
      | inr none ↦
          let rest = behind ps scope next (next + length (proxy_ranks ps scope)) in
          let both = subst (λ (b : Bool). Satisfies m (cond {A = Made} b ([], []) (clause_of scope (sofar ++ heads ps scope next) ∷ rest.0, proxy_ranks ps scope ++ rest.1)).0) none sat in
          let said = sym (list_any-append (plit_true m env) sofar (heads ps scope next)) ∙ wide_from_clause m scope (sofar ++ heads ps scope next) both.0 env h in
          or_weaken (lits_true m env sofar) (lits_true m env (heads ps scope next)) (some_true ts m env) (given_heads ps ts given m scope next (next + length (proxy_ranks ps scope)) both.1 env h) said
    ]

some_alone : (t : Truth) → Implies (some_true (t ∷ [])) t
some_alone t m env h = elim (or_cases (t m env) false h) [ inl a ↦ a | inr f ↦ absurd (false≢true f) ]

other : (k : Maker) (t : Truth) → Given k t → NodeGiven (record { run = k; parts = Part.Other k ∷ [] }) t
other k t given = record { run = given; truths = t ∷ []; parts = (given, tt); whole = some_alone t }

node_literal : (l : Plit) → NodeGiven (record { run = run_literal l; parts = Part.Plain l ∷ [] }) (λ m env. plit_true m env l)
node_literal l = record { run = given_literal l; truths = (λ m env. plit_true m env l) ∷ []; parts = ((λ m env h. h), tt); whole = some_alone (λ m env. plit_true m env l) }

node_and : (xs : List Node) (ts : List Truth) → NodesGiven xs ts → NodeGiven (and_node xs) (all_true ts)
node_and [] [] given = record { run = given_all [] [] tt; truths = all_true [] ∷ []; parts = ((λ m env. refl), tt); whole = λ m env h. refl }
node_and [] (t ∷ ts) given = absurd given
node_and (x ∷ xs) [] given = absurd given
node_and (x ∷ []) (t ∷ []) given = record { run = weaken x.run t (all_true (t ∷ [])) (λ m env h. and_true (t m env) h) given.0.run; truths = given.0.truths; parts = given.0.parts; whole = λ m env h. and_true (t m env) (given.0.whole m env h) }
node_and (x ∷ []) (t ∷ u ∷ ts) given = absurd given.1
node_and (x ∷ y ∷ zs) (t ∷ ts) given = other (run_all (x ∷ y ∷ zs)) (all_true (t ∷ ts)) (given_all (x ∷ y ∷ zs) (t ∷ ts) given)

parts_both : (ps qs : List Part) (ts us : List Truth) → PartsGiven ps ts → PartsGiven qs us → PartsGiven (ps ++ qs) (ts ++ us)
parts_both [] qs [] us g h = h
parts_both [] qs (t ∷ ts) us g h = absurd g
parts_both (p ∷ ps) qs [] us g h = absurd g
parts_both (p ∷ ps) qs (t ∷ ts) us g h = (g.0, parts_both ps qs ts us g.1 h)

some_parts : (ts us : List Truth) (m : Reading) (env : List ℕ) → some_true (ts ++ us) m env ≡ true → (some_true ts m env || some_true us m env) ≡ true
some_parts [] us m env h = h
some_parts (t ∷ ts) us m env h =
    elim (or_cases (t m env) (some_true (ts ++ us) m env) h) [
      | inl a ↦ or_left (t m env || some_true ts m env) (some_true us m env) (or_left (t m env) (some_true ts m env) a)
      | inr b ↦ elim (or_cases (some_true ts m env) (some_true us m env) (some_parts ts us m env b)) [ inl c ↦ or_left (t m env || some_true ts m env) (some_true us m env) (or_right (t m env) (some_true ts m env) c) | inr d ↦ or_right (t m env || some_true ts m env) (some_true us m env) d ]
    ]

pub record Members (xs : List Node) (ts : List Truth) : Type 0 where
  pub truths : List Truth
  pub parts : PartsGiven (all_parts xs) truths
  pub whole : Implies (some_true truths) (some_true ts)

members : (xs : List Node) (ts : List Truth) → NodesGiven xs ts → Members xs ts
members [] [] given = record { truths = []; parts = tt; whole = λ m env h. h }
members [] (t ∷ ts) given = absurd given
members (x ∷ xs) [] given = absurd given
members (x ∷ xs) (t ∷ ts) given =
    let rest = members xs ts given.1 in
    record {
      truths = given.0.truths ++ rest.truths;
      parts = parts_both x.parts (all_parts xs) given.0.truths rest.truths given.0.parts rest.parts;
      whole = λ m env h. elim (or_cases (some_true given.0.truths m env) (some_true rest.truths m env) (some_parts given.0.truths rest.truths m env h)) [ inl a ↦ or_left (t m env) (some_true ts m env) (given.0.whole m env a) | inr b ↦ or_right (t m env) (some_true ts m env) (rest.whole m env b) ];
    }

node_or : (xs : List Node) (ts : List Truth) → NodesGiven xs ts → NodeGiven (record { run = run_some (all_parts xs); parts = all_parts xs }) (some_true ts)
node_or xs ts given =
    let ms = members xs ts given in
    record { run = weaken (run_some (all_parts xs)) (some_true ms.truths) (some_true ts) ms.whole (given_some (all_parts xs) ms.truths ms.parts); truths = ms.truths; parts = ms.parts; whole = ms.whole }

abbrev Claim : Nnf → Type 0
Claim f = NodeGiven (node f) (nnf_true f)

along : (x y : Node) (t u : Truth) → x ≡ y → t ≡ u → NodeGiven y u → NodeGiven x t
along x y t u p q h = subst (λ (n : Node). NodeGiven n t) (sym p) (subst (λ (v : Truth). NodeGiven y v) (sym q) h)

each_given : (fs : List Nnf) → Each Claim fs → NodesGiven (map node fs) (map nnf_true fs)
each_given [] each = tt
each_given (f ∷ fs) each = (each.0, each_given fs each.1)

claim_lit : (positive : Bool) (a : Patom) → Claim (Nnf.Lit positive a)
claim_lit positive a = along (node (Nnf.Lit positive a)) _ (nnf_true (Nnf.Lit positive a)) _ (fold_of_lit Node node_step positive a) (fold_of_lit Truth nnf_step positive a) (node_literal (record { positive = positive; atom = a }))

claim_and : (fs : List Nnf) → Each Claim fs → Claim (Nnf.And fs)
claim_and fs each = along (node (Nnf.And fs)) _ (nnf_true (Nnf.And fs)) _ (fold_of_and Node node_step fs) (fold_of_and Truth nnf_step fs) (node_and (map node fs) (map nnf_true fs) (each_given fs each))

claim_or : (fs : List Nnf) → Each Claim fs → Claim (Nnf.Or fs)
claim_or fs each = along (node (Nnf.Or fs)) _ (nnf_true (Nnf.Or fs)) _ (fold_of_or Node node_step fs) (fold_of_or Truth nnf_step fs) (node_or (map node fs) (map nnf_true fs) (each_given fs each))

claim_all : (vars : List SortId) (body : Nnf) → Claim body → Claim (Nnf.All vars body)
claim_all vars body h = along (node (Nnf.All vars body)) _ (nnf_true (Nnf.All vars body)) _ (fold_of_all Node node_step vars body) (fold_of_all Truth nnf_step vars body) (other (run_each vars (node body).run) (λ m env. block m true vars (λ inner. nnf_true body m inner) env) (given_each vars (node body).run (nnf_true body) h.run))

pub given : (f : Nnf) → NodeGiven (node f) (nnf_true f)
given = nnf_induction Claim claim_lit claim_and claim_or claim_all
