-- The clauses of a well sorted normal form are well sorted over the signature with its proxies.
use Rattle.std.proofs.Common.{◌≡◌, ℕ, zero, ◌+◌, Bool, true, false, cond, List, [], ◌∷◌, ◌++◌, length, map, Some, ap, refl, sym, subst, ◌∙◌, arith, append_assoc, length-append}
use Rattle.std.specs.Prelude.{nat_lt, slice_get}
use Rattle.std.specs.List.{list_all}
use Rattle.std.proofs.lemmas.Bool.{and_parts, and_from}
use Rattle.fm_base.specs.Truth.{Sorted, all_sorted}
use Rattle.fm_base.specs.declared.ids.SortId.{SortId}
use Rattle.fm_base.specs.declared.signature.Rank.{Rank}
use Rattle.fm_base.specs.declared.signature.Sig.{Sig}
use Rattle.fm_base.specs.declared.formula.Nnf
use Rattle.fm_base.specs.declared.formula.Nnf.{Nnf}
use Rattle.fm_base.specs.declared.formula.Patom.{Patom}
use Rattle.fm_base.proofs.NormalTerms.{Each}
use Rattle.fm_bank.specs.Sorted.{are_sorted_literals, is_sorted_atom, is_sorted_clause}
use Rattle.fm_bank.specs.declared.clause.Clause.{Clause}
use Rattle.fm_bank.specs.declared.clause.Plit.{Plit}
use Rattle.fm_nnf.specs.LiftLaw.{with_ranks}
use Rattle.fm_nnf.specs.NormalForm.{all_variables}
use Rattle.fm_nnf.proofs.Coincidence.{Extends}
use Rattle.fm_nnf.proofs.Joined.{extends_chain, grow_both, grow_extends}
use Rattle.fm_nnf.proofs.Normals.{fold_of_all, fold_of_and, fold_of_lit, fold_of_or, nnf_induction}
use Rattle.fm_clauses.specs.Narrow.{clause_of}
use Rattle.fm_clauses.specs.SortLaw.{are_sorted_clauses, is_sorted_form, sorted_form_step}
use Rattle.fm_clauses.specs.Table.{Made, Maker, Node, Part, all_parts, and_node, behind, has_always, heads, node, node_step, nothing, proxy, proxy_rank, proxy_ranks, run_all, run_each, run_literal, run_some}
use Rattle.fm_clauses.proofs.SortedForms.{AreProper, is_declared, is_proper, types_declared}
use Rattle.fm_clauses.proofs.SortedTerms.{all_append, atom_stays, clause_sorted, clause_stays, get_seam, in_range, literals_stay, more_scope, proxy_sorted, range_stays, same_scope, same_signature, types_of}

pub clauses_stay : (sig big : Sig) → Extends sig big → (cs : List Clause) → are_sorted_clauses sig cs ≡ true → are_sorted_clauses big cs ≡ true
clauses_stay sig big more [] e = refl
clauses_stay sig big more (c ∷ cs) e =
    let p = and_parts (is_sorted_clause sig c) (are_sorted_clauses sig cs) e in
    and_from (is_sorted_clause big c) (are_sorted_clauses big cs) (clause_stays sig big c more p.0) (clauses_stay sig big more cs p.1)

-- what is made is well sorted over the signature with its symbols, whose ranks are of its sorts
pub record MadeSorted (now : Sig) (made : Made) : Type 0 where
  pub sorted : are_sorted_clauses (with_ranks now made.1) made.0 ≡ true
  pub proper : AreProper now.sorts made.1

pub nothing_sorted : (now : Sig) → MadeSorted now nothing
nothing_sorted now = record { sorted = refl; proper = refl }

-- the one, and then the other over the signature with the symbols of the one
pub made_both : (now : Sig) (one two : Made) → MadeSorted now one → MadeSorted (with_ranks now one.1) two → MadeSorted now (one.0 ++ two.0, one.1 ++ two.1)
made_both now one two x y =
    let mid = with_ranks now one.1 in
    let all = grow_both now one.1 two.1 in
    let here = clauses_stay mid (with_ranks mid two.1) (grow_extends mid two.1) one.0 x.sorted in
    record {
      sorted = all_append (is_sorted_clause (with_ranks now (one.1 ++ two.1))) one.0 two.0 (subst (λ (s : Sig). are_sorted_clauses s one.0 ≡ true) all here) (subst (λ (s : Sig). are_sorted_clauses s two.0 ≡ true) all y.sorted);
      proper = all_append (is_proper now.sorts) one.1 two.1 x.proper y.proper;
    }

pub made_along : (now : Sig) (k : ℕ → Made) (m n : ℕ) → m ≡ n → MadeSorted now (k m) → MadeSorted now (k n)
made_along now k m n e h = subst (λ (i : ℕ). MadeSorted now (k i)) e h

-- a maker and a part, under these variables

abbrev pub Runs : Sig → List SortId → Maker → Type 0
Runs base scope k = (now : Sig) (sofar : List Plit) → Extends base now → are_sorted_literals now scope sofar ≡ true → MadeSorted now (k scope sofar (length now.ranks))

abbrev pub PartSorted : Sig → List SortId → Part → Type 0
PartSorted base scope (Part.Plain l) = is_sorted_atom base scope l.atom ≡ true
PartSorted base scope Part.Always = Unit {0}
PartSorted base scope (Part.Other k) = Runs base scope k

abbrev pub PartsSorted : Sig → List SortId → List Part → Type 0
PartsSorted base scope [] = Unit {0}
PartsSorted base scope (p ∷ ps) = PartSorted base scope p × PartsSorted base scope ps

abbrev NodeSorted : Sig → List SortId → Node → Type 0
NodeSorted base scope x = Runs base scope x.run × PartsSorted base scope x.parts

abbrev NodesSorted : Sig → List SortId → List Node → Type 0
NodesSorted base scope [] = Unit {0}
NodesSorted base scope (x ∷ xs) = NodeSorted base scope x × NodesSorted base scope xs

parts_both : (base : Sig) (scope : List SortId) (ps qs : List Part) → PartsSorted base scope ps → PartsSorted base scope qs → PartsSorted base scope (ps ++ qs)
parts_both base scope [] qs h k = k
parts_both base scope (p ∷ ps) qs h k = (h.0, parts_both base scope ps qs h.1 k)

all_parts_sorted : (base : Sig) (scope : List SortId) (xs : List Node) → NodesSorted base scope xs → PartsSorted base scope (all_parts xs)
all_parts_sorted base scope [] h = tt
all_parts_sorted base scope (x ∷ xs) h = parts_both base scope x.parts (all_parts xs) h.0.1 (all_parts_sorted base scope xs h.1)

run_all_sorted : (base : Sig) (scope : List SortId) (xs : List Node) → NodesSorted base scope xs → Runs base scope (run_all xs)
run_all_sorted base scope [] h now sofar more lits = nothing_sorted now
run_all_sorted base scope (x ∷ xs) h now sofar more lits =
    let n = length now.ranks in
    let one = x.run scope sofar n in
    let mid = with_ranks now one.1 in
    let grown = grow_extends now one.1 in
    let rest = run_all_sorted base scope xs h.1 mid sofar (extends_chain base now mid more grown) (literals_stay now mid scope scope grown (same_scope scope) sofar lits) in
    made_both now one (run_all xs scope sofar (n + length one.1)) (h.0.0 now sofar more lits) (made_along mid (run_all xs scope sofar) (length mid.ranks) (n + length one.1) (length-append now.ranks one.1) rest)

and_node_sorted : (base : Sig) (scope : List SortId) (xs : List Node) → NodesSorted base scope xs → NodeSorted base scope (and_node xs)
and_node_sorted base scope [] h = (run_all_sorted base scope [] h, (tt, tt))
and_node_sorted base scope (x ∷ []) h = h.0
and_node_sorted base scope (x ∷ y ∷ zs) h = let k = run_all_sorted base scope (x ∷ y ∷ zs) h in (k, (k, tt))

literals_both : (sig : Sig) (scope : List SortId) (xs ys : List Plit) → are_sorted_literals sig scope xs ≡ true → are_sorted_literals sig scope ys ≡ true → are_sorted_literals sig scope (xs ++ ys) ≡ true
literals_both sig scope xs ys p q = all_append (λ (l : Plit). is_sorted_atom sig scope l.atom) xs ys p q

literal_runs : (base : Sig) (scope : List SortId) (l : Plit) → in_range base scope ≡ true → is_sorted_atom base scope l.atom ≡ true → Runs base scope (run_literal l)
literal_runs base scope l range h now sofar more lits =
    let here = atom_stays base now scope scope more (same_scope scope) l.atom h in
    let c = clause_of scope (sofar ++ l ∷ []) in
    let fit = clause_sorted now scope (sofar ++ l ∷ []) (range_stays base now scope more range) (literals_both now scope sofar (l ∷ []) lits (and_from (is_sorted_atom now scope l.atom) true here refl)) in
    record { sorted = and_from (is_sorted_clause (with_ranks now []) c) true (clause_stays now (with_ranks now []) c (grow_extends now []) fit) refl; proper = refl }

each_runs : (base : Sig) (scope vars : List SortId) (k : Maker) → Runs base (scope ++ vars) k → Runs base scope (run_each vars k)
each_runs base scope vars k h now sofar more lits = h now sofar more (literals_stay now now scope (scope ++ vars) (same_signature now) (more_scope scope vars) sofar lits)

-- the proxies of an Or

-- a signature in which the proxies from p on stand
abbrev Proxied : Sig → List SortId → ℕ → List Part → Type 0
Proxied sig scope p [] = Unit {0}
Proxied sig scope p (Part.Plain l ∷ ps) = Proxied sig scope p ps
Proxied sig scope p (Part.Always ∷ ps) = Proxied sig scope p ps
Proxied sig scope p (Part.Other k ∷ ps) = (is_sorted_atom sig scope (Patom.Pred (record { 0 = p }) (all_variables zero scope)) ≡ true) × Proxied sig scope (p + 1) ps

proxies_stand : (sig : Sig) (scope : List SortId) (p : ℕ) (pre : List Rank) (ps : List Part) → sig.ranks ≡ pre ++ proxy_ranks ps scope → p ≡ length pre → Proxied sig scope p ps
proxies_stand sig scope p pre [] e l = tt
proxies_stand sig scope p pre (Part.Plain x ∷ ps) e l = proxies_stand sig scope p pre ps e l
proxies_stand sig scope p pre (Part.Always ∷ ps) e l = proxies_stand sig scope p pre ps e l
proxies_stand sig scope p pre (Part.Other k ∷ ps) e l =
    let rank = proxy_rank scope in
    let there : slice_get sig.ranks p ≡ Some rank = (λ i. slice_get (e i) (l i)) ∙ get_seam pre rank (proxy_ranks ps scope) in
    let n = length-append pre (rank ∷ []) in
    (proxy_sorted sig scope p rank there refl refl, proxies_stand sig scope (p + 1) (pre ++ rank ∷ []) ps (e ∙ sym (append_assoc pre (rank ∷ []) (proxy_ranks ps scope))) (omega (arith, n, l)))

proxied_more : (sig big : Sig) (scope : List SortId) → Extends sig big → (p : ℕ) (ps : List Part) → Proxied sig scope p ps → Proxied big scope p ps
proxied_more sig big scope more p [] h = tt
proxied_more sig big scope more p (Part.Plain l ∷ ps) h = proxied_more sig big scope more p ps h
proxied_more sig big scope more p (Part.Always ∷ ps) h = proxied_more sig big scope more p ps h
proxied_more sig big scope more p (Part.Other k ∷ ps) h = (atom_stays sig big scope scope more (same_scope scope) (Patom.Pred (record { 0 = p }) (all_variables zero scope)) h.0, proxied_more sig big scope more (p + 1) ps h.1)

proxies_proper : (sorts : ℕ) (scope : List SortId) (ps : List Part) → list_all (λ (s : SortId). nat_lt s.0 sorts) scope ≡ true → AreProper sorts (proxy_ranks ps scope)
proxies_proper sorts scope [] e = refl
proxies_proper sorts scope (Part.Plain l ∷ ps) e = proxies_proper sorts scope ps e
proxies_proper sorts scope (Part.Always ∷ ps) e = proxies_proper sorts scope ps e
proxies_proper sorts scope (Part.Other k ∷ ps) e =
    and_from (is_proper sorts (proxy_rank scope)) (list_all (is_proper sorts) (proxy_ranks ps scope)) (and_from (list_all (is_declared sorts) (types_of scope)) true (types_declared sorts scope e) refl) (proxies_proper sorts scope ps e)

heads_sorted : (base sig : Sig) (scope : List SortId) → Extends base sig → (p : ℕ) (ps : List Part) → PartsSorted base scope ps → Proxied sig scope p ps → are_sorted_literals sig scope (heads ps scope p) ≡ true
heads_sorted base sig scope more p [] h there = refl
heads_sorted base sig scope more p (Part.Plain l ∷ ps) h there =
    and_from (is_sorted_atom sig scope l.atom) (are_sorted_literals sig scope (heads ps scope p)) (atom_stays base sig scope scope more (same_scope scope) l.atom h.0) (heads_sorted base sig scope more p ps h.1 there)
heads_sorted base sig scope more p (Part.Always ∷ ps) h there = heads_sorted base sig scope more p ps h.1 there
heads_sorted base sig scope more p (Part.Other k ∷ ps) h there =
    and_from (is_sorted_atom sig scope (proxy true scope p).atom) (are_sorted_literals sig scope (heads ps scope (p + 1))) there.0 (heads_sorted base sig scope more (p + 1) ps h.1 there.1)

behind_sorted : (base now : Sig) (scope : List SortId) (p : ℕ) (ps : List Part) → Extends base now → PartsSorted base scope ps → Proxied now scope p ps → MadeSorted now (behind ps scope p (length now.ranks))
behind_sorted base now scope p [] more h there = nothing_sorted now
behind_sorted base now scope p (Part.Plain l ∷ ps) more h there = behind_sorted base now scope p ps more h.1 there
behind_sorted base now scope p (Part.Always ∷ ps) more h there = behind_sorted base now scope p ps more h.1 there
behind_sorted base now scope p (Part.Other k ∷ ps) more h there =
    let n = length now.ranks in
    let one = k scope (proxy false scope p ∷ []) n in
    let mid = with_ranks now one.1 in
    let grown = grow_extends now one.1 in
    let first = h.0 now (proxy false scope p ∷ []) more (and_from (is_sorted_atom now scope (proxy false scope p).atom) true there.0 refl) in
    let rest = behind_sorted base mid scope (p + 1) ps (extends_chain base now mid more grown) h.1 (proxied_more now mid scope grown (p + 1) ps there.1) in
    made_both now one (behind ps scope (p + 1) (n + length one.1)) first (made_along mid (behind ps scope (p + 1)) (length mid.ranks) (n + length one.1) (length-append now.ranks one.1) rest)

unless_always : (now : Sig) (b : Bool) (made : Made) → MadeSorted now made → MadeSorted now (cond b nothing made)
unless_always now true made h = nothing_sorted now
unless_always now false made h = h

some_runs : (base : Sig) (scope : List SortId) (ps : List Part) → in_range base scope ≡ true → PartsSorted base scope ps → Runs base scope (run_some ps)
some_runs base scope ps range h now sofar more lits =
    let n = length now.ranks in
    let proxies = proxy_ranks ps scope in
    let mid = with_ranks now proxies in
    let grown = grow_extends now proxies in
    let all = extends_chain base now mid more grown in
    let there = proxies_stand mid scope n now.ranks ps refl refl in
    let fit = range_stays base now scope more range in
    let c = clause_of scope (sofar ++ heads ps scope n) in
    let clause = clause_sorted mid scope (sofar ++ heads ps scope n) fit (literals_both mid scope sofar (heads ps scope n) (literals_stay now mid scope scope grown (same_scope scope) sofar lits) (heads_sorted base mid scope all n ps h there)) in
    let one : MadeSorted now (c ∷ [], proxies) = record { sorted = and_from (is_sorted_clause mid c) true clause refl; proper = proxies_proper now.sorts scope ps fit } in
    let rest = behind ps scope n (n + length proxies) in
    let two : MadeSorted mid rest = made_along mid (behind ps scope n) (length mid.ranks) (n + length proxies) (length-append now.ranks proxies) (behind_sorted base mid scope n ps all h there) in
    unless_always now (has_always ps) (c ∷ rest.0, proxies ++ rest.1) (made_both now (c ∷ [], proxies) rest one two)

-- by the constructors of normal forms

abbrev NodeOf : Nnf → Type 0
NodeOf f = (base : Sig) (scope : List SortId) → in_range base scope ≡ true → is_sorted_form f base scope ≡ true → NodeSorted base scope (node f)

nodes_sorted : (fs : List Nnf) → Each NodeOf fs → (base : Sig) (scope : List SortId) → in_range base scope ≡ true → all_sorted (map is_sorted_form fs) base scope ≡ true → NodesSorted base scope (map node fs)
nodes_sorted [] each base scope range e = tt
nodes_sorted (f ∷ fs) each base scope range e =
    let p = and_parts (is_sorted_form f base scope) (all_sorted (map is_sorted_form fs) base scope) e in
    (each.0 base scope range p.0, nodes_sorted fs each.1 base scope range p.1)

along : (base : Sig) (scope : List SortId) (x y : Node) → x ≡ y → NodeSorted base scope y → NodeSorted base scope x
along base scope x y e h = subst (λ (z : Node). NodeSorted base scope z) (sym e) h

pub node_sorted : (f : Nnf) → NodeOf f
node_sorted = nnf_induction NodeOf
    (λ positive a base scope range e.
    let l : Plit = record { positive = positive; atom = a } in
    let h : is_sorted_atom base scope a ≡ true = sym (ap (λ (k : Sorted). k base scope) (fold_of_lit Sorted sorted_form_step positive a)) ∙ e in
    along base scope (node (Nnf.Lit positive a)) (record { run = run_literal l; parts = Part.Plain l ∷ [] }) (fold_of_lit Node node_step positive a) (literal_runs base scope l range h, (h, tt)))
    (λ fs each base scope range e.
    let h = nodes_sorted fs each base scope range (sym (ap (λ (k : Sorted). k base scope) (fold_of_and Sorted sorted_form_step fs)) ∙ e) in
    along base scope (node (Nnf.And fs)) (and_node (map node fs)) (fold_of_and Node node_step fs) (and_node_sorted base scope (map node fs) h))
    (λ fs each base scope range e.
    let h = nodes_sorted fs each base scope range (sym (ap (λ (k : Sorted). k base scope) (fold_of_or Sorted sorted_form_step fs)) ∙ e) in
    let parts = all_parts_sorted base scope (map node fs) h in
    along base scope (node (Nnf.Or fs)) (record { run = run_some (all_parts (map node fs)); parts = all_parts (map node fs) }) (fold_of_or Node node_step fs) (some_runs base scope (all_parts (map node fs)) range parts, parts))
    (λ vars body h base scope range e.
    let p = and_parts (in_range base vars) (is_sorted_form body base (scope ++ vars)) (sym (ap (λ (k : Sorted). k base scope) (fold_of_all Sorted sorted_form_step vars body)) ∙ e) in
    let inner = h base (scope ++ vars) (all_append (λ (s : SortId). nat_lt s.0 base.sorts) scope vars range p.0) p.1 in
    let k = each_runs base scope vars (node body).run inner.0 in
    along base scope (node (Nnf.All vars body)) (record { run = run_each vars (node body).run; parts = Part.Other (run_each vars (node body).run) ∷ [] }) (fold_of_all Node node_step vars body) (k, (k, tt)))
