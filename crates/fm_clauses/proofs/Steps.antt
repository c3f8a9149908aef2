-- Clauses one after the other.
use Rattle.std.proofs.Common.{◌≡◌, ℕ, ◌+◌, ◌<◌, ◌≤◌, Bool, true, false, cond, List, [], ◌∷◌, ◌++◌, length, map, get_or, drop, ap, refl, sym, subst, ◌∙◌, arith, append_assoc, length-append}
use Rattle.std.proofs.lemmas.List.{append-nil, drop_all}
use Rattle.fm_base.specs.declared.ids.SortId.{SortId}
use Rattle.fm_base.specs.declared.signature.Rank.{Rank}
use Rattle.fm_base.specs.declared.formula.Nnf.{Nnf}
use Rattle.fm_bank.specs.declared.clause.Clause.{Clause}
use Rattle.fm_bank.specs.declared.clause.Plit.{Plit}
use Rattle.fm_clauses.specs.Table.{Made, Maker, Part, Node, node, nothing, and_node, all_parts, run_all, run_some, behind, heads, proxy, proxy_ranks, has_always}
use Rattle.fm_clauses.specs.Narrow.{clause_of}
use Rattle.fm_clauses.specs.Adding.{Adds, AddsBehind}
use Rattle.fm_clauses.proofs.Parts.{ranks_append}
use Rattle.fm_clauses.proofs.Walks.{drop_read}

abbrev pub after : (ℕ → Made) → (ℕ → Made) → ℕ → Made
after j k n = ((j n).0 ++ (k (n + length (j n).1)).0, (j n).1 ++ (k (n + length (j n).1)).1)

pub adds_after : (j k : ℕ → Made) (first : ℕ) (c0 c1 c2 : List Clause) (r0 r1 r2 : List Rank) → Adds j first c0 r0 c1 r1 → Adds k first c1 r1 c2 r2 → Adds (after j k) first c0 r0 c2 r2
adds_after j k first c0 c1 c2 r0 r1 r2 one two =
    let x = j (first + length r0) in
    let n : first + length r1 ≡ first + length r0 + length x.1 = (let e = ap length one.made_ranks in let l = length-append r0 x.1 in omega (arith, e, l)) in
    record {
      made_clauses = two.made_clauses ∙ (λ i. one.made_clauses i ++ (k (n i)).0) ∙ append_assoc c0 x.0 (k (first + length r0 + length x.1)).0;
      made_ranks = two.made_ranks ∙ (λ i. one.made_ranks i ++ (k (n i)).1) ∙ append_assoc r0 x.1 (k (first + length r0 + length x.1)).1;
    }

pub adds_nothing : (k : ℕ → Made) → ((n : ℕ) → k n ≡ nothing) → (first : ℕ) (c : List Clause) (r : List Rank) → Adds k first c r c r
adds_nothing k e first c r = record {
  made_clauses = sym (append-nil c) ∙ ap (λ (m : Made). c ++ m.0) (sym (e (first + length r)));
  made_ranks = sym (append-nil r) ∙ ap (λ (m : Made). r ++ m.1) (sym (e (first + length r)));
}

pub adds_as : (j k : ℕ → Made) → ((n : ℕ) → j n ≡ k n) → (first : ℕ) (c0 c1 : List Clause) (r0 r1 : List Rank) → Adds j first c0 r0 c1 r1 → Adds k first c0 r0 c1 r1
adds_as j k e first c0 c1 r0 r1 h = record {
  made_clauses = h.made_clauses ∙ ap (λ (m : Made). c0 ++ m.0) (e (first + length r0));
  made_ranks = h.made_ranks ∙ ap (λ (m : Made). r0 ++ m.1) (e (first + length r0));
}

alone_is : (m : Made) → (m.0 ++ [], m.1 ++ []) ≡ m
alone_is m = let a = append-nil m.0 in let b = append-nil m.1 in λ i. (a i, b i)

-- an And of one member runs as that member
pub and_runs : (xs : List Node) (scope : List SortId) (sofar : List Plit) (n : ℕ) → run_all xs scope sofar n ≡ (and_node xs).run scope sofar n
and_runs [] scope sofar n = refl
and_runs (x ∷ []) scope sofar n = alone_is (x.run scope sofar n)
and_runs (x ∷ y ∷ zs) scope sofar n = refl

pub run_step : (fs : List Nnf) (i : ℕ) (x : Nnf) → i < length fs → x ≡ get_or fs i x → (scope : List SortId) (sofar : List Plit) (first : ℕ) (c0 c1 c2 : List Clause) (r0 r1 r2 : List Rank) → Adds ((node x).run scope sofar) first c0 r0 c1 r1
    → Adds (run_all (map node (drop (i + 1) fs)) scope sofar) first c1 r1 c2 r2 → Adds (run_all (map node (drop i fs)) scope sofar) first c0 r0 c2 r2
run_step fs i x lt e scope sofar first c0 c1 c2 r0 r1 r2 one two =
    subst (λ (ys : List Nnf). Adds (run_all (map node ys) scope sofar) first c0 r0 c2 r2) (sym (drop_read fs i x lt e)) (adds_after ((node x).run scope sofar) (run_all (map node (drop (i + 1) fs)) scope sofar) first c0 c1 c2 r0 r1 r2 one two)

pub run_end : (fs : List Nnf) (i : ℕ) → length fs ≤ i → (scope : List SortId) (sofar : List Plit) (first : ℕ) (c : List Clause) (r : List Rank) → Adds (run_all (map node (drop i fs)) scope sofar) first c r c r
run_end fs i le scope sofar first c r = subst (λ (ys : List Nnf). Adds (run_all (map node ys) scope sofar) first c r c r) (sym (drop_all i fs le)) (adds_nothing (run_all [] scope sofar) (λ n. refl) first c r)

-- behind two lists of parts
pub behind_append : (ps qs : List Part) (scope : List SortId) (p n : ℕ) → after (behind ps scope p) (behind qs scope (p + length (proxy_ranks ps scope))) n ≡ behind (ps ++ qs) scope p n
behind_append [] qs scope p n =
    let a : p + 0 ≡ p = omega arith in
    let b : n + 0 ≡ n = omega arith in
    λ i. behind qs scope (a i) (b i)
behind_append (Part.Plain l ∷ ps) qs scope p n = behind_append ps qs scope p n
behind_append (Part.Always ∷ ps) qs scope p n = behind_append ps qs scope p n
behind_append (Part.Other k ∷ ps) qs scope p n =
    let x = k scope (proxy false scope p ∷ []) n in
    let m = n + length x.1 in
    let y = behind ps scope (p + 1) m in
    let l = length-append x.1 y.1 in
    let a : p + length (proxy_ranks (Part.Other k ∷ ps) scope) ≡ p + 1 + length (proxy_ranks ps scope) = omega arith in
    let b : n + length (x.1 ++ y.1) ≡ m + length y.1 = omega (arith, l) in
    let z = behind qs scope (p + 1 + length (proxy_ranks ps scope)) (m + length y.1) in
    let rest = behind_append ps qs scope (p + 1) m in
    (λ i. ((x.0 ++ y.0) ++ (behind qs scope (a i) (b i)).0, (x.1 ++ y.1) ++ (behind qs scope (a i) (b i)).1)) ∙ (λ i. (append_assoc x.0 y.0 z.0 i, append_assoc x.1 y.1 z.1 i)) ∙ (λ i. (x.0 ++ (rest i).0, x.1 ++ (rest i).1))

pub behind_step : (fs : List Nnf) (i : ℕ) (x : Nnf) → i < length fs → x ≡ get_or fs i x → (scope : List SortId) (symbol first : ℕ) (c0 c1 c2 : List Clause) (r0 r1 r2 : List Rank) (next last : ℕ) → AddsBehind (node x).parts scope symbol first c0 r0 c1 r1 next
    → AddsBehind (all_parts (map node (drop (i + 1) fs))) scope next first c1 r1 c2 r2 last → AddsBehind (all_parts (map node (drop i fs))) scope symbol first c0 r0 c2 r2 last
behind_step fs i x lt e scope symbol first c0 c1 c2 r0 r1 r2 next last one two =
    let ps = (node x).parts in
    let qs = all_parts (map node (drop (i + 1) fs)) in
    let l = length-append (proxy_ranks ps scope) (proxy_ranks qs scope) in
    let k = ap length (ranks_append ps qs scope) in
    let a = one.after in
    let b = two.after in
    let rest = subst (λ (p : ℕ). Adds (behind qs scope p) first c1 r1 c2 r2) a two.adds in
    subst (λ (ys : List Nnf). AddsBehind (all_parts (map node ys)) scope symbol first c0 r0 c2 r2 last) (sym (drop_read fs i x lt e)) (record {
      adds = adds_as (after (behind ps scope symbol) (behind qs scope (symbol + length (proxy_ranks ps scope)))) (behind (ps ++ qs) scope symbol) (behind_append ps qs scope symbol) first c0 c2 r0 r2 (adds_after (behind ps scope symbol) (behind qs scope (symbol + length (proxy_ranks ps scope))) first c0 c1 c2 r0 r1 r2 one.adds rest);
      after = omega (arith, a, b, k, l);
    })

pub behind_end : (fs : List Nnf) (i : ℕ) → length fs ≤ i → (scope : List SortId) (symbol first : ℕ) (c : List Clause) (r : List Rank) → AddsBehind (all_parts (map node (drop i fs))) scope symbol first c r c r symbol
behind_end fs i le scope symbol first c r = subst (λ (ys : List Nnf). AddsBehind (all_parts (map node ys)) scope symbol first c r c r symbol) (sym (drop_all i fs le)) (record { adds = adds_nothing (behind [] scope symbol) (λ n. refl) first c r; after = omega arith })

-- one member behind its proxy
pub behind_one : (k : Maker) (scope : List SortId) (symbol first : ℕ) (c0 c1 : List Clause) (r0 r1 : List Rank) → Adds (k scope (proxy false scope symbol ∷ [])) first c0 r0 c1 r1 → AddsBehind (Part.Other k ∷ []) scope symbol first c0 r0 c1 r1 (symbol + 1)
behind_one k scope symbol first c0 c1 r0 r1 h = record { adds = adds_as (k scope (proxy false scope symbol ∷ [])) (behind (Part.Other k ∷ []) scope symbol) (λ n. sym (alone_is (k scope (proxy false scope symbol ∷ []) n))) first c0 c1 r0 r1 h; after = omega arith }

-- an Or without an And of nothing: its clause, then what is behind it
pub run_some_is : (ps : List Part) (scope : List SortId) (sofar : List Plit) (first : ℕ) (c0 c1 c2 : List Clause) (r0 r1 r2 : List Rank) (next : ℕ) → has_always ps ≡ false → c1 ≡ c0 ++ clause_of scope (sofar ++ heads ps scope (first + length r0)) ∷ [] → r1 ≡ r0 ++ proxy_ranks ps scope
    → AddsBehind ps scope (first + length r0) first c1 r1 c2 r2 next → Adds (run_some ps scope sofar) first c0 r0 c2 r2
run_some_is ps scope sofar first c0 c1 c2 r0 r1 r2 next none ec er rest =
    let p = first + length r0 in
    let clause = clause_of scope (sofar ++ heads ps scope p) in
    let proxies = proxy_ranks ps scope in
    let n : first + length r1 ≡ p + length proxies = (let e = ap length er in let l = length-append r0 proxies in omega (arith, e, l)) in
    let b = behind ps scope p (p + length proxies) in
    let is : run_some ps scope sofar p ≡ (clause ∷ b.0, proxies ++ b.1) = ap (λ (v : Bool). cond {A = Made} v nothing (clause ∷ b.0, proxies ++ b.1)) none in
    record {
      made_clauses = rest.adds.made_clauses ∙ (λ i. ec i ++ (behind ps scope p (n i)).0) ∙ append_assoc c0 (clause ∷ []) b.0 ∙ ap (λ (m : Made). c0 ++ m.0) (sym is);
      made_ranks = rest.adds.made_ranks ∙ (λ i. er i ++ (behind ps scope p (n i)).1) ∙ append_assoc r0 proxies b.1 ∙ ap (λ (m : Made). r0 ++ m.1) (sym is);
    }

pub run_some_always : (ps : List Part) (scope : List SortId) (sofar : List Plit) (first : ℕ) (c : List Clause) (r : List Rank) → has_always ps ≡ true → Adds (run_some ps scope sofar) first c r c r
run_some_always ps scope sofar first c r all = adds_nothing (run_some ps scope sofar) (λ n. ap (λ (v : Bool). cond {A = Made} v nothing (clause_of scope (sofar ++ heads ps scope n) ∷ (behind ps scope n (n + length (proxy_ranks ps scope))).0, proxy_ranks ps scope ++ (behind ps scope n (n + length (proxy_ranks ps scope))).1)) all) first c r

-- what the proxies of one member take of those that are known
pub known_first : (fs : List Nnf) (i : ℕ) (x : Nnf) → i < length fs → x ≡ get_or fs i x → (scope : List SortId) (next bound : ℕ) → next + length (proxy_ranks (all_parts (map node (drop i fs))) scope) ≤ bound → next + length (proxy_ranks (node x).parts scope) ≤ bound
known_first fs i x lt e scope next bound le =
    let ps = (node x).parts in
    let qs = all_parts (map node (drop (i + 1) fs)) in
    let d : length (proxy_ranks (all_parts (map node (drop i fs))) scope) ≡ length (proxy_ranks (ps ++ qs) scope) = ap (λ (ys : List Nnf). length (proxy_ranks (all_parts (map node ys)) scope)) (drop_read fs i x lt e) in
    let k = ap length (ranks_append ps qs scope) in
    let l = length-append (proxy_ranks ps scope) (proxy_ranks qs scope) in
    omega (arith, d, k, l, le)

pub known_rest : (fs : List Nnf) (i : ℕ) (x : Nnf) → i < length fs → x ≡ get_or fs i x → (scope : List SortId) (next after first : ℕ) (r0 r1 : List Rank) (made : List Rank) → next + length (proxy_ranks (all_parts (map node (drop i fs))) scope) ≤ first + length r0
    → after ≡ next + length (proxy_ranks (node x).parts scope) → r1 ≡ r0 ++ made → after + length (proxy_ranks (all_parts (map node (drop (i + 1) fs))) scope) ≤ first + length r1
known_rest fs i x lt e scope next after first r0 r1 made le a er =
    let ps = (node x).parts in
    let qs = all_parts (map node (drop (i + 1) fs)) in
    let d : length (proxy_ranks (all_parts (map node (drop i fs))) scope) ≡ length (proxy_ranks (ps ++ qs) scope) = ap (λ (ys : List Nnf). length (proxy_ranks (all_parts (map node ys)) scope)) (drop_read fs i x lt e) in
    let k = ap length (ranks_append ps qs scope) in
    let l = length-append (proxy_ranks ps scope) (proxy_ranks qs scope) in
    let m = ap length er in
    let n = length-append r0 made in
    omega (arith, d, k, l, le, a, m, n)
