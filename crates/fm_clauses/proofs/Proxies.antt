-- The proxies of an Or take the truth of their members, and so each true normal form has its clauses.
use Rattle.std.proofs.Common.{◌≡◌, ℕ, suc, ◌+◌, ◌<◌, ◌≤◌, Bool, true, false, ◌||◌, not, cond, List, [], ◌∷◌, ◌++◌, length, map, ap, refl, sym, subst, ◌∙◌, arith, inl, inr}
use Rattle.std.specs.Prelude.{◌==◌, nat_lt}
use Rattle.std.specs.List.{list_all}
use Rattle.std.proofs.lemmas.Bool.{cases_Bool, or_cases, or_left, or_right, and_parts, false≢true, ltb-true, eq-eqb, ne_eqb}
use Rattle.std.proofs.lemmas.List.Folds.{list_any-append}
use Rattle.fm_base.specs.Interpretations.{Reading}
use Rattle.fm_base.specs.Models.{IsElements}
use Rattle.fm_base.specs.Truth.{Truth, all_true, some_true, block}
use Rattle.fm_base.specs.declared.ids.SortId.{SortId}
use Rattle.fm_base.specs.declared.formula.Patom.{Patom}
use Rattle.fm_base.specs.declared.formula.Pterm.{Pterm}
use Rattle.fm_base.specs.declared.formula.Nnf
use Rattle.fm_base.specs.declared.formula.Nnf.{Nnf}
use Rattle.fm_bank.specs.Clauses.{lits_true, plit_true, signed, value}
use Rattle.fm_bank.specs.declared.clause.Plit.{Plit}
use Rattle.fm_base.proofs.NormalTerms.{Each, value_of_var}
use Rattle.fm_base.specs.Expansions.{Symbols, Agree, RanksFit, with_symbols}
use Rattle.fm_clauses.proofs.Literals.{LocalLits, local_literal, local_lits_both, local_lits_more}
use Rattle.fm_clauses.proofs.Given.{proxy_steady, Implies, given}
use Rattle.fm_clauses.proofs.Lists.{or_weaken}
use Rattle.fm_clauses.proofs.Narrowing.{AreInhabited, clause_from_wide}
use Rattle.fm_clauses.proofs.Reached.{Got, got_nothing, got_both, clause_same, Full, PartsFull, NodeFull, NodesFull, nodes_local, strengthen, full_literal, full_all, full_each}
use Rattle.fm_clauses.specs.Narrow.{clause_of}
use Rattle.fm_clauses.specs.Table.{Made, Maker, Part, Node, node, node_step, and_node, all_parts, nothing, run_all, run_each, run_literal, run_some, heads, behind, proxy, proxy_ranks, has_always, clauses_of_normal}
use Rattle.fm_clauses.specs.TableLaw.{ClausesSayTheSame, ExpandsToClauses}
use Rattle.fm_nnf.proofs.Locals.{Local, agree_less, agree_chain, local_more, local_all_true, local_some_true, local_block}
use Rattle.fm_nnf.proofs.Normals.{nnf_induction, fold_of_lit, fold_of_and, fold_of_or, fold_of_all}
use Rattle.fm_nnf.proofs.Tuples.{own_values, elements_length}
use Rattle.fm_nnf.specs.NormalForm.{all_variables}
use Rattle.fm_nnf.specs.NormalTruth.{nnf_true, nnf_step, is_within, within_step, all_of}

abbrev pub bit : Bool → ℕ
bit b = cond b 1 0

bit_is : (b : Bool) → (bit b == 1) ≡ b
bit_is true = refl
bit_is false = refl

bit_below : (b : Bool) → bit b < 2
bit_below true = omega arith
bit_below false = omega arith

-- the old reading, with the proxies from p on true where their members are
abbrev pub expanded : List Part → List Truth → Reading → Symbols → ℕ → Symbols
expanded [] ts m a p f xs = a f xs
expanded (q ∷ ps) [] m a p f xs = a f xs
expanded (Part.Plain l ∷ ps) (t ∷ ts) m a p f xs = expanded ps ts m a p f xs
expanded (Part.Always ∷ ps) (t ∷ ts) m a p f xs = expanded ps ts m a p f xs
expanded (Part.Other k ∷ ps) (t ∷ ts) m a p f xs = cond (f == p) (bit (t m xs)) (expanded ps ts m a (p + 1) f xs)

expanded_below : (ps : List Part) (ts : List Truth) (m : Reading) (a : Symbols) (p f : ℕ) (xs : List ℕ) → f < p → expanded ps ts m a p f xs ≡ a f xs
expanded_below [] ts m a p f xs lt = refl
expanded_below (q ∷ ps) [] m a p f xs lt = refl
expanded_below (Part.Plain l ∷ ps) (t ∷ ts) m a p f xs lt = expanded_below ps ts m a p f xs lt
expanded_below (Part.Always ∷ ps) (t ∷ ts) m a p f xs lt = expanded_below ps ts m a p f xs lt
expanded_below (Part.Other k ∷ ps) (t ∷ ts) m a p f xs lt = ap (λ (b : Bool). cond b (bit (t m xs)) (expanded ps ts m a (p + 1) f xs)) (ne_eqb f p (λ e. absurd (omega (arith, e, lt)))) ∙ expanded_below ps ts m a (p + 1) f xs (omega arith)

-- the proxies from p on are true where their members are
abbrev pub Means : Symbols → Reading → ℕ → List Part → List Truth → Type 0
Means b m p [] ts = Unit {0}
Means b m p (q ∷ ps) [] = Unit {0}
Means b m p (Part.Plain l ∷ ps) (t ∷ ts) = Means b m p ps ts
Means b m p (Part.Always ∷ ps) (t ∷ ts) = Means b m p ps ts
Means b m p (Part.Other k ∷ ps) (t ∷ ts) = ((env : List ℕ) → b p env ≡ bit (t m env)) × Means b m (p + 1) ps ts

-- it is enough to look at the proxies
means_along : (b c : Symbols) (m : Reading) (p : ℕ) (ps : List Part) (ts : List Truth) (scope : List SortId) → ((f : ℕ) (xs : List ℕ) → p ≤ f → f < p + length (proxy_ranks ps scope) → c f xs ≡ b f xs) → Means b m p ps ts → Means c m p ps ts
means_along b c m p [] ts scope agree h = tt
means_along b c m p (q ∷ ps) [] scope agree h = tt
means_along b c m p (Part.Plain l ∷ ps) (t ∷ ts) scope agree h = means_along b c m p ps ts scope agree h
means_along b c m p (Part.Always ∷ ps) (t ∷ ts) scope agree h = means_along b c m p ps ts scope agree h
means_along b c m p (Part.Other k ∷ ps) (t ∷ ts) scope agree h =
    ((λ env. agree p env (omega arith) (omega arith) ∙ h.0 env), means_along b c m (p + 1) ps ts scope (λ f xs le lt. agree f xs (omega arith) (omega arith)) h.1)

expanded_means : (ps : List Part) (ts : List Truth) (m : Reading) (a : Symbols) (p : ℕ) → Means (expanded ps ts m a p) m p ps ts
expanded_means [] ts m a p = tt
expanded_means (q ∷ ps) [] m a p = tt
expanded_means (Part.Plain l ∷ ps) (t ∷ ts) m a p = expanded_means ps ts m a p
expanded_means (Part.Always ∷ ps) (t ∷ ts) m a p = expanded_means ps ts m a p
expanded_means (Part.Other k ∷ ps) (t ∷ ts) m a p = (
  (λ env. ap (λ (b : Bool). cond b (bit (t m env)) (expanded ps ts m a (p + 1) p env)) (eq-eqb p p refl)),
  means_along (expanded ps ts m a (p + 1)) (expanded (Part.Other k ∷ ps) (t ∷ ts) m a p) m (p + 1) ps ts [] (λ f xs le lt. ap (λ (b : Bool). cond b (bit (t m xs)) (expanded ps ts m a (p + 1) f xs)) (ne_eqb f p (λ e. absurd (omega (arith, e, le))))) (expanded_means ps ts m a (p + 1)),
)

proxies_fit : (size : ℕ → ℕ) (bound : ℕ) (ps : List Part) (ts : List Truth) → PartsFull size bound ps ts → (b : Symbols) (m : Reading) (p : ℕ) (scope : List SortId) → Means b m p ps ts → RanksFit (with_symbols size b) p (proxy_ranks ps scope)
proxies_fit size bound [] ts full b m p scope means = tt
proxies_fit size bound (q ∷ ps) [] full b m p scope means = absurd full
proxies_fit size bound (Part.Plain l ∷ ps) (t ∷ ts) full b m p scope means = proxies_fit size bound ps ts full.1 b m p scope means
proxies_fit size bound (Part.Always ∷ ps) (t ∷ ts) full b m p scope means = proxies_fit size bound ps ts full.1 b m p scope means
proxies_fit size bound (Part.Other k ∷ ps) (t ∷ ts) full b m p scope means =
    ((λ xs at. subst (λ (v : ℕ). v < 2) (sym (means.0 xs)) (bit_below (t m xs))), proxies_fit size bound ps ts full.1 b m (p + 1) scope means.1)

proxy_is : (size : ℕ → ℕ) (b : Symbols) (positive : Bool) (scope : List SortId) (p : ℕ) (env : List ℕ) (v : Bool) → IsElements (with_symbols size b) scope env → b p env ≡ bit v → plit_true (with_symbols size b) env (proxy positive scope p) ≡ signed positive v
proxy_is size b positive scope p env v at e =
    let own = own_values (with_symbols size b) 0 scope [] env refl (elements_length (with_symbols size b) scope env at) in
    ap (λ (xs : List ℕ). signed positive (b p xs == 1)) own ∙ ap (λ (n : ℕ). signed positive (n == 1)) e ∙ ap (signed positive) (bit_is v)

local_proxy : (positive : Bool) (scope : List SortId) (p n : ℕ) → p < n → Local n (λ m env. plit_true m env (proxy positive scope p))
local_proxy positive scope p n lt size a b env agree =
    let vals = all_same scope 0 in
    ap (λ (xs : List ℕ). signed positive (b p xs == 1)) vals ∙ ap (λ (v : ℕ). signed positive (v == 1)) (agree p (map (λ (t : Pterm). value t (with_symbols size a) env) (all_variables 0 scope)) lt)
  where
    all_same : (ss : List SortId) (k : ℕ) → map (λ (t : Pterm). value t (with_symbols size b) env) (all_variables k ss) ≡ map (λ (t : Pterm). value t (with_symbols size a) env) (all_variables k ss)
    all_same [] k = refl
    all_same (s ∷ ss) k =
        let head = value_of_var k (with_symbols size b) env ∙ sym (value_of_var k (with_symbols size a) env) in
        let tail = all_same ss (suc k) in
        λ i. head i ∷ tail i

local_heads : (size : ℕ → ℕ) (bound : ℕ) (ps : List Part) (ts : List Truth) → PartsFull size bound ps ts → (scope : List SortId) (p n : ℕ) → bound ≤ n → p + length (proxy_ranks ps scope) ≤ n → LocalLits n (heads ps scope p)
local_heads size bound [] ts full scope p n le room = λ size' a b env agree. refl
local_heads size bound (q ∷ ps) [] full scope p n le room = absurd full
local_heads size bound (Part.Plain l ∷ ps) (t ∷ ts) full scope p n le room = local_lits_more n l (heads ps scope p) (local_more bound n (λ m env. plit_true m env l) le full.0.0) (local_heads size bound ps ts full.1 scope p n le room)
local_heads size bound (Part.Always ∷ ps) (t ∷ ts) full scope p n le room = local_heads size bound ps ts full.1 scope p n le room
local_heads size bound (Part.Other k ∷ ps) (t ∷ ts) full scope p n le room = local_lits_more n (proxy true scope p) (heads ps scope (p + 1)) (local_proxy true scope p n (omega arith)) (local_heads size bound ps ts full.1 scope (p + 1) n le (omega arith))

-- where a member was true, a literal of the clause is
heads_hold : (size : ℕ → ℕ) (bound : ℕ) (ps : List Part) (ts : List Truth) → PartsFull size bound ps ts → has_always ps ≡ false → (a b : Symbols) → Agree bound a b → (scope : List SortId) (p : ℕ) → Means b (with_symbols size a) p ps ts
    → (env : List ℕ) → IsElements (with_symbols size b) scope env → some_true ts (with_symbols size a) env ≡ true → lits_true (with_symbols size b) env (heads ps scope p) ≡ true
heads_hold size bound [] [] full none a b agree scope p means env at h = h
heads_hold size bound [] (t ∷ ts) full none a b agree scope p means env at h = absurd full
heads_hold size bound (q ∷ ps) [] full none a b agree scope p means env at h = absurd full
heads_hold size bound (Part.Plain l ∷ ps) (t ∷ ts) full none a b agree scope p means env at h =
    elim (or_cases (t (with_symbols size a) env) (some_true ts (with_symbols size a) env) h) [
      | inl e ↦ or_left (plit_true (with_symbols size b) env l) (lits_true (with_symbols size b) env (heads ps scope p)) (full.0.0 size a b env agree ∙ full.0.1 (with_symbols size a) env e)
      | inr e ↦ or_right (plit_true (with_symbols size b) env l) (lits_true (with_symbols size b) env (heads ps scope p)) (heads_hold size bound ps ts full.1 none a b agree scope p means env at e)
    ]
heads_hold size bound (Part.Always ∷ ps) (t ∷ ts) full none a b agree scope p means env at h = absurd (false≢true (sym none))
heads_hold size bound (Part.Other k ∷ ps) (t ∷ ts) full none a b agree scope p means env at h =
    elim (or_cases (t (with_symbols size a) env) (some_true ts (with_symbols size a) env) h) [
      | inl e ↦ or_left (plit_true (with_symbols size b) env (proxy true scope p)) (lits_true (with_symbols size b) env (heads ps scope (p + 1))) (proxy_is size b true scope p env (t (with_symbols size a) env) at (means.0 env) ∙ e)
      | inr e ↦ or_right (plit_true (with_symbols size b) env (proxy true scope p)) (lits_true (with_symbols size b) env (heads ps scope (p + 1))) (heads_hold size bound ps ts full.1 none a b agree scope (p + 1) means.1 env at e)
    ]

not_or_same : (v w : Bool) → w ≡ v → ((not v || false) || w) ≡ true
not_or_same true w e = e
not_or_same false w e = refl

full_behind : (size : ℕ → ℕ) (bound : ℕ) (ps : List Part) (ts : List Truth) → PartsFull size bound ps ts → (a b : Symbols) → Agree bound a b → (scope : List SortId) (p next : ℕ) → Means b (with_symbols size a) p ps ts → p + length (proxy_ranks ps scope) ≤ next → bound ≤ next
    → AreInhabited size scope → Got size b next (behind ps scope p next)
full_behind size bound [] ts full a b agree scope p next means room le some = got_nothing size b next
full_behind size bound (q ∷ ps) [] full a b agree scope p next means room le some = absurd full
full_behind size bound (Part.Plain l ∷ ps) (t ∷ ts) full a b agree scope p next means room le some = full_behind size bound ps ts full.1 a b agree scope p next means room le some
full_behind size bound (Part.Always ∷ ps) (t ∷ ts) full a b agree scope p next means room le some = full_behind size bound ps ts full.1 a b agree scope p next means room le some
full_behind size bound (Part.Other k ∷ ps) (t ∷ ts) full a b agree scope p next means room le some =
    let sofar : List Plit = proxy false scope p ∷ [] in
    let made = k scope sofar next in
    let n = next + length made.1 in
    let one = full.0.0 b scope sofar next le some (local_lits_more next (proxy false scope p) [] (local_proxy false scope p next (omega arith)) (λ size' c d env same. refl)) (λ c. proxy_steady (with_symbols size c) false scope p) (λ env at.
    let is = proxy_is size b false scope p env (t (with_symbols size a) env) at (means.0 env) in
    (λ i. (is i || false) || t (with_symbols size b) env) ∙ not_or_same (t (with_symbols size a) env) (t (with_symbols size b) env) (full.0.1 size a b env agree)) in
    let meant = means_along b one.at (with_symbols size a) (p + 1) ps ts scope (λ f xs low high. one.agrees f xs (omega arith)) means.1 in
    let two = full_behind size bound ps ts full.1 a one.at (agree_chain bound a b one.at agree (agree_less bound next b one.at le one.agrees)) scope (p + 1) n meant (omega arith) (omega arith) some in
    got_both size b next made (behind ps scope (p + 1) n) one two

full_some : (size : ℕ → ℕ) (bound : ℕ) (ps : List Part) (ts : List Truth) → PartsFull size bound ps ts → Full size bound (run_some ps) (some_true ts)
full_some size bound ps ts full a scope sofar next le some local steady h =
    let proxies = proxy_ranks ps scope in
    let n = next + length proxies in
    let rest = behind ps scope next n in
    let clause = clause_of scope (sofar ++ heads ps scope next) in
    elim (cases_Bool (has_always ps)) [
      | inl all ↦ subst (λ (b : Bool). Got size a next (cond {A = Made} b nothing (clause ∷ rest.0, proxies ++ rest.1))) (sym all) (got_nothing size a next)
      | inr none ↦
          let at = expanded ps ts (with_symbols size a) a next in
          let agree : Agree next a at = λ f xs lt. expanded_below ps ts (with_symbols size a) a next f xs lt in
          let means = expanded_means ps ts (with_symbols size a) a next in
          let lits = local_lits_both n sofar (heads ps scope next) (local_more next n (λ m env. lits_true m env sofar) (omega arith) local) (local_heads size bound ps ts full scope next n (omega arith) (omega arith)) in
          let one : Got size a next (clause ∷ [], proxies) = record {
            at = at;
            agrees = agree;
            fits = proxies_fit size bound ps ts full at (with_symbols size a) next scope means;
            same = λ b c same sat. (clause_same size n scope (sofar ++ heads ps scope next) some lits b c same sat.0, tt);
            holds = (
              clause_from_wide (with_symbols size at) scope (sofar ++ heads ps scope next) some (λ env is.
                  list_any-append (plit_true (with_symbols size at) env) sofar (heads ps scope next) ∙ or_weaken (lits_true (with_symbols size at) env sofar) (some_true ts (with_symbols size a) env) (lits_true (with_symbols size at) env (heads ps scope next))
                  (λ e. heads_hold size bound ps ts full none a at (agree_less bound next a at le agree) scope next means env is e)
                  (ap (λ (v : Bool). v || some_true ts (with_symbols size a) env) (local size a at env agree) ∙ h env is)),
              tt,
            );
          } in
          let two = full_behind size bound ps ts full a at (agree_less bound next a at le agree) scope next n means (omega arith) (omega arith) some in
          subst (λ (b : Bool). Got size a next (cond {A = Made} b nothing (clause ∷ rest.0, proxies ++ rest.1))) (sym none) (got_both size a next (clause ∷ [], proxies) rest one two)
    ]

some_alone : (t : Truth) → Implies t (some_true (t ∷ []))
some_alone t m env h = or_left (t m env) false h

other : (size : ℕ → ℕ) (bound : ℕ) (k : Maker) (t : Truth) → Full size bound k t → Local bound t → NodeFull size bound (record { run = k; parts = Part.Other k ∷ [] }) t
other size bound k t full local = record { run = full; local = local; truths = t ∷ []; parts = ((full, local), tt); whole = some_alone t }

node_literal : (size : ℕ → ℕ) (bound : ℕ) (l : Plit) → Local bound (λ m env. plit_true m env l) → NodeFull size bound (record { run = run_literal l; parts = Part.Plain l ∷ [] }) (λ m env. plit_true m env l)
node_literal size bound l local = record { run = full_literal size bound l local; local = local; truths = (λ m env. plit_true m env l) ∷ []; parts = ((local, (λ m env h. h)), tt); whole = some_alone (λ m env. plit_true m env l) }

node_and : (size : ℕ → ℕ) (bound : ℕ) (xs : List Node) (ts : List Truth) → NodesFull size bound xs ts → NodeFull size bound (and_node xs) (all_true ts)
node_and size bound [] [] full = record { run = full_all size bound [] [] tt; local = local_all_true bound [] tt; truths = all_true [] ∷ []; parts = (tt, tt); whole = λ m env h. refl }
node_and size bound [] (t ∷ ts) full = absurd full
node_and size bound (x ∷ xs) [] full = absurd full
node_and size bound (x ∷ []) (t ∷ []) full =
    let back : Implies (all_true (t ∷ [])) t = λ m env h. (and_parts (t m env) true h).0 in
    record { run = strengthen size bound x.run (all_true (t ∷ [])) t back full.0.run; local = local_all_true bound (t ∷ []) (full.0.local, tt); truths = full.0.truths; parts = full.0.parts; whole = λ m env h. full.0.whole m env (back m env h) }
node_and size bound (x ∷ []) (t ∷ u ∷ ts) full = absurd full.1
node_and size bound (x ∷ y ∷ zs) (t ∷ ts) full = other size bound (run_all (x ∷ y ∷ zs)) (all_true (t ∷ ts)) (full_all size bound (x ∷ y ∷ zs) (t ∷ ts) full) (local_all_true bound (t ∷ ts) (nodes_local size bound (x ∷ y ∷ zs) (t ∷ ts) full))

parts_both : (size : ℕ → ℕ) (bound : ℕ) (ps qs : List Part) (ts us : List Truth) → PartsFull size bound ps ts → PartsFull size bound qs us → PartsFull size bound (ps ++ qs) (ts ++ us)
parts_both size bound [] qs [] us g h = h
parts_both size bound [] qs (t ∷ ts) us g h = absurd g
parts_both size bound (p ∷ ps) qs [] us g h = absurd g
parts_both size bound (p ∷ ps) qs (t ∷ ts) us g h = (g.0, parts_both size bound ps qs ts us g.1 h)

some_left : (ts us : List Truth) (m : Reading) (env : List ℕ) → some_true ts m env ≡ true → some_true (ts ++ us) m env ≡ true
some_left [] us m env h = absurd (false≢true h)
some_left (t ∷ ts) us m env h = elim (or_cases (t m env) (some_true ts m env) h) [ inl a ↦ or_left (t m env) (some_true (ts ++ us) m env) a | inr b ↦ or_right (t m env) (some_true (ts ++ us) m env) (some_left ts us m env b) ]

some_right : (ts us : List Truth) (m : Reading) (env : List ℕ) → some_true us m env ≡ true → some_true (ts ++ us) m env ≡ true
some_right [] us m env h = h
some_right (t ∷ ts) us m env h = or_right (t m env) (some_true (ts ++ us) m env) (some_right ts us m env h)

record Members (size : ℕ → ℕ) (bound : ℕ) (xs : List Node) (ts : List Truth) : Type 0 where
  truths : List Truth
  parts : PartsFull size bound (all_parts xs) truths
  whole : Implies (some_true ts) (some_true truths)

members : (size : ℕ → ℕ) (bound : ℕ) (xs : List Node) (ts : List Truth) → NodesFull size bound xs ts → Members size bound xs ts
members size bound [] [] full = record { truths = []; parts = tt; whole = λ m env h. h }
members size bound [] (t ∷ ts) full = absurd full
members size bound (x ∷ xs) [] full = absurd full
members size bound (x ∷ xs) (t ∷ ts) full =
    let rest = members size bound xs ts full.1 in
    record {
      truths = full.0.truths ++ rest.truths;
      parts = parts_both size bound x.parts (all_parts xs) full.0.truths rest.truths full.0.parts rest.parts;
      whole = λ m env h. elim (or_cases (t m env) (some_true ts m env) h) [ inl a ↦ some_left full.0.truths rest.truths m env (full.0.whole m env a) | inr b ↦ some_right full.0.truths rest.truths m env (rest.whole m env b) ];
    }

node_or : (size : ℕ → ℕ) (bound : ℕ) (xs : List Node) (ts : List Truth) → NodesFull size bound xs ts → NodeFull size bound (record { run = run_some (all_parts xs); parts = all_parts xs }) (some_true ts)
node_or size bound xs ts full =
    let ms = members size bound xs ts full in
    record { run = strengthen size bound (run_some (all_parts xs)) (some_true ts) (some_true ms.truths) ms.whole (full_some size bound (all_parts xs) ms.truths ms.parts); local = local_some_true bound ts (nodes_local size bound xs ts full); truths = ms.truths; parts = ms.parts; whole = ms.whole }

inhabited_vars : (size : ℕ → ℕ) (sorts : ℕ) → ((s : ℕ) → s < sorts → 0 < size s) → (vars : List SortId) → list_all (λ (s : SortId). nat_lt s.0 sorts) vars ≡ true → AreInhabited size vars
inhabited_vars size sorts some [] h = tt
inhabited_vars size sorts some (v ∷ vs) h =
    let p = and_parts (nat_lt v.0 sorts) (list_all (λ (s : SortId). nat_lt s.0 sorts) vs) h in
    (some v.0 (ltb-true v.0 sorts p.0), inhabited_vars size sorts some vs p.1)

module _ (size : ℕ → ℕ) (bound sorts : ℕ) (some : (s : ℕ) → s < sorts → 0 < size s) where
  abbrev Claim : Nnf → Type 0
  Claim f = is_within bound sorts f ≡ true → NodeFull size bound (node f) (nnf_true f)

  along : (x y : Node) (t u : Truth) → x ≡ y → t ≡ u → NodeFull size bound y u → NodeFull size bound x t
  along x y t u p q h = subst (λ (n : Node). NodeFull size bound n t) (sym p) (subst (λ (v : Truth). NodeFull size bound y v) (sym q) h)

  each_full : (fs : List Nnf) → Each Claim fs → all_of (map (is_within bound sorts) fs) ≡ true → NodesFull size bound (map node fs) (map nnf_true fs)
  each_full [] each e = tt
  each_full (f ∷ fs) each e =
      let p = and_parts (is_within bound sorts f) (all_of (map (is_within bound sorts) fs)) e in
      (each.0 p.0, each_full fs each.1 p.1)

  claim_lit : (positive : Bool) (a : Patom) → Claim (Nnf.Lit positive a)
  claim_lit positive a e =
      let l : Plit = record { positive = positive; atom = a } in
      along (node (Nnf.Lit positive a)) _ (nnf_true (Nnf.Lit positive a)) _ (fold_of_lit Node node_step positive a) (fold_of_lit Truth nnf_step positive a) (node_literal size bound l (local_literal bound l (sym (fold_of_lit Bool (within_step bound sorts) positive a) ∙ e)))

  claim_and : (fs : List Nnf) → Each Claim fs → Claim (Nnf.And fs)
  claim_and fs each e = along (node (Nnf.And fs)) _ (nnf_true (Nnf.And fs)) _ (fold_of_and Node node_step fs) (fold_of_and Truth nnf_step fs) (node_and size bound (map node fs) (map nnf_true fs) (each_full fs each (sym (fold_of_and Bool (within_step bound sorts) fs) ∙ e)))

  claim_or : (fs : List Nnf) → Each Claim fs → Claim (Nnf.Or fs)
  claim_or fs each e = along (node (Nnf.Or fs)) _ (nnf_true (Nnf.Or fs)) _ (fold_of_or Node node_step fs) (fold_of_or Truth nnf_step fs) (node_or size bound (map node fs) (map nnf_true fs) (each_full fs each (sym (fold_of_or Bool (within_step bound sorts) fs) ∙ e)))

  claim_all : (vars : List SortId) (body : Nnf) → Claim body → Claim (Nnf.All vars body)
  claim_all vars body claim e =
      let p = and_parts (list_all (λ (s : SortId). nat_lt s.0 sorts) vars) (is_within bound sorts body) (sym (fold_of_all Bool (within_step bound sorts) vars body) ∙ e) in
      let h = claim p.1 in
      along (node (Nnf.All vars body)) _ (nnf_true (Nnf.All vars body)) _ (fold_of_all Node node_step vars body) (fold_of_all Truth nnf_step vars body)
      (other size bound (run_each vars (node body).run) (λ m env. block m true vars (λ inner. nnf_true body m inner) env) (full_each size bound vars (node body).run (nnf_true body) (inhabited_vars size sorts some vars p.0) h.run) (local_block bound true vars (nnf_true body) h.local))

  pub node_full : (f : Nnf) → Claim f
  node_full = nnf_induction Claim claim_lit claim_and claim_or claim_all

alone : (f : Nnf) (m : Reading) (env : List ℕ) → IsElements m [] env → nnf_true f m [] ≡ true → nnf_true f m env ≡ true
alone f m [] at h = h
alone f m (x ∷ xs) at h = absurd at

-- a true normal form expands
pub clauses_expand : (f : Nnf) (next sorts : ℕ) (size : ℕ → ℕ) (a : Symbols) → is_within next sorts f ≡ true → ((s : ℕ) → s < sorts → 0 < size s) → nnf_true f (with_symbols size a) [] ≡ true → Got size a next (clauses_of_normal f next)
clauses_expand f next sorts size a within some h =
    (node_full size next sorts some f within).run a [] [] next (omega arith) tt (λ size' b c env agree. refl) (λ b env xs le. refl) (λ env at. alone f (with_symbols size a) env at h)

pub say_the_same : ClausesSayTheSame
say_the_same f next sorts m within some =
    ((λ h. expands h), λ e. given_back e)
  where
    expands : nnf_true f m [] ≡ true → ExpandsToClauses m next (clauses_of_normal f next)
    expands h =
        let got = clauses_expand f next sorts m.size m.at within some h in
        record { expansion = record { at = got.at; agrees = got.agrees; fits = got.fits }; satisfies = got.holds }

    given_back : ExpandsToClauses m next (clauses_of_normal f next) → nnf_true f m [] ≡ true
    given_back e =
        let x = node_full m.size next sorts some f within in
        sym (x.local m.size m.at e.expansion.at [] e.expansion.agrees) ∙ (given f).run (with_symbols m.size e.expansion.at) [] [] next (λ env xs le. refl) e.satisfies [] tt
