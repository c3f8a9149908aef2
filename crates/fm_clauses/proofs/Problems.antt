-- The clauses of formulas one after the other, behind the ranks of their symbols.
use Rattle.std.proofs.Common.{◌≡◌, ℕ, ◌+◌, ◌<◌, ◌≤◌, List, [], ◌∷◌, ◌++◌, length, drop, get_or, ap, refl, sym, subst, ◌∙◌, arith}
use Rattle.std.proofs.lemmas.List.{append-nil, drop_all}
use Rattle.fm_base.specs.declared.signature.Rank.{Rank}
use Rattle.fm_base.specs.declared.signature.Sig.{Sig}
use Rattle.fm_base.specs.declared.formula.Formula.{Formula}
use Rattle.fm_bank.specs.declared.clause.Clause.{Clause}
use Rattle.fm_bank.specs.declared.clause.ClauseSet.{ClauseSet}
use Rattle.fm_nnf.specs.LiftLaw.{with_ranks}
use Rattle.fm_nnf.specs.Lifting.{lifted}
use Rattle.fm_nnf.specs.NormalForm.{normal}
use Rattle.fm_clauses.specs.Adding.{Adds}
use Rattle.fm_clauses.specs.Assertions.{Numbered, after, assertion_made, assertions_made, clause_table, form_made, forms_made, fresh_constants, has_ground}
use Rattle.fm_clauses.specs.Table.{node}
use Rattle.fm_clauses.proofs.Steps.{adds_after, adds_nothing}
use Rattle.fm_clauses.proofs.Walks.{drop_read}

-- ranks alone, and then what is made behind them
ranks_first : (rs : List Rank) (k : Numbered) (first : ℕ) (c0 c2 : List Clause) (r0 r1 r2 : List Rank) → r1 ≡ r0 ++ rs → Adds k first c0 r1 c2 r2 → Adds (after (λ m. ([], rs)) k) first c0 r0 c2 r2
ranks_first rs k first c0 c2 r0 r1 r2 e more = adds_after (λ m. ([], rs)) k first c0 c0 c2 r0 r1 r2 (record { made_clauses = sym (append-nil c0); made_ranks = e }) more

pub form_adds : (f : Formula) (first next : ℕ) (c0 c2 : List Clause) (r0 r1 r2 : List Rank) → next ≡ first + length r0 → r1 ≡ r0 ++ (normal f next).1 → Adds ((node (normal f next).0).run [] []) first c0 r1 c2 r2 → Adds (form_made f) first c0 r0 c2 r2
form_adds f first next c0 c2 r0 r1 r2 e is more =
    let n = normal f (first + length r0) in
    let is' : r1 ≡ r0 ++ n.1 = subst (λ (k : ℕ). r1 ≡ r0 ++ (normal f k).1) e is in
    let more' : Adds ((node n.0).run [] []) first c0 r1 c2 r2 = subst (λ (k : ℕ). Adds ((node (normal f k).0).run [] []) first c0 r1 c2 r2) e more in
    let h = ranks_first n.1 ((node n.0).run [] []) first c0 c2 r0 r1 r2 is' more' in
    record { made_clauses = h.made_clauses; made_ranks = h.made_ranks }

pub assertion_adds : (sig : Sig) (f : Formula) (first next : ℕ) (c0 c1 c2 : List Clause) (r0 r1 r2 r3 : List Rank) → next ≡ first + length r0 → r1 ≡ r0 ++ (lifted sig f next).ranks → Adds (form_made (lifted sig f next).made) first c0 r1 c1 r2
    → Adds (forms_made (lifted sig f next).definitions) first c1 r2 c2 r3 → Adds (assertion_made sig f) first c0 r0 c2 r3
assertion_adds sig f first next c0 c1 c2 r0 r1 r2 r3 e is one two =
    let l = lifted sig f (first + length r0) in
    let is' : r1 ≡ r0 ++ l.ranks = subst (λ (k : ℕ). r1 ≡ r0 ++ (lifted sig f k).ranks) e is in
    let one' : Adds (form_made l.made) first c0 r1 c1 r2 = subst (λ (k : ℕ). Adds (form_made (lifted sig f k).made) first c0 r1 c1 r2) e one in
    let two' : Adds (forms_made l.definitions) first c1 r2 c2 r3 = subst (λ (k : ℕ). Adds (forms_made (lifted sig f k).definitions) first c1 r2 c2 r3) e two in
    let all : Adds (forms_made (l.made ∷ l.definitions)) first c0 r1 c2 r3 = adds_after (form_made l.made) (forms_made l.definitions) first c0 c1 c2 r1 r2 r3 one' two' in
    let h = ranks_first l.ranks (forms_made (l.made ∷ l.definitions)) first c0 c2 r0 r1 r3 is' all in
    record { made_clauses = h.made_clauses; made_ranks = h.made_ranks }

pub forms_step : (fs : List Formula) (i : ℕ) (x : Formula) → i < length fs → x ≡ get_or fs i x → (first : ℕ) (c0 c1 c2 : List Clause) (r0 r1 r2 : List Rank) → Adds (form_made x) first c0 r0 c1 r1 → Adds (forms_made (drop (i + 1) fs)) first c1 r1 c2 r2 → Adds (forms_made (drop i fs)) first c0 r0 c2 r2
forms_step fs i x lt e first c0 c1 c2 r0 r1 r2 one two =
    subst (λ (ys : List Formula). Adds (forms_made ys) first c0 r0 c2 r2) (sym (drop_read fs i x lt e)) (adds_after (form_made x) (forms_made (drop (i + 1) fs)) first c0 c1 c2 r0 r1 r2 one two)

pub forms_end : (fs : List Formula) (i : ℕ) → length fs ≤ i → (first : ℕ) (c : List Clause) (r : List Rank) → Adds (forms_made (drop i fs)) first c r c r
forms_end fs i le first c r = subst (λ (ys : List Formula). Adds (forms_made ys) first c r c r) (sym (drop_all i fs le)) (adds_nothing (forms_made []) (λ n. refl) first c r)

pub assertions_step : (sig : Sig) (fs : List Formula) (i : ℕ) (x : Formula) → i < length fs → x ≡ get_or fs i x → (first : ℕ) (c0 c1 c2 : List Clause) (r0 r1 r2 : List Rank) → Adds (assertion_made sig x) first c0 r0 c1 r1 → Adds (assertions_made sig (drop (i + 1) fs)) first c1 r1 c2 r2 → Adds (assertions_made sig (drop i fs)) first c0 r0 c2 r2
assertions_step sig fs i x lt e first c0 c1 c2 r0 r1 r2 one two =
    subst (λ (ys : List Formula). Adds (assertions_made sig ys) first c0 r0 c2 r2) (sym (drop_read fs i x lt e)) (adds_after (assertion_made sig x) (assertions_made sig (drop (i + 1) fs)) first c0 c1 c2 r0 r1 r2 one two)

pub assertions_end : (sig : Sig) (fs : List Formula) (i : ℕ) → length fs ≤ i → (first : ℕ) (c : List Clause) (r : List Rank) → Adds (assertions_made sig (drop i fs)) first c r c r
assertions_end sig fs i le first c r = subst (λ (ys : List Formula). Adds (assertions_made sig ys) first c r c r) (sym (drop_all i fs le)) (adds_nothing (assertions_made sig []) (λ n. refl) first c r)

-- the whole table, put together
pub table_is : (sig : Sig) (fs : List Formula) (user : ℕ) (symbols whole : Sig) (clauses : List Clause) (made fresh : List Rank) → user ≡ length sig.ranks → Adds (assertions_made sig fs) user [] [] clauses made → symbols ≡ with_ranks sig made → fresh ≡ fresh_constants symbols.sorts (has_ground symbols clauses)
    → whole ≡ with_ranks symbols fresh → (let t : ClauseSet = record { sig = whole; user = user; clauses = clauses } in t) ≡ clause_table sig fs
table_is sig fs user symbols whole clauses made fresh e adds es ef ew =
    let n : user + 0 ≡ length sig.ranks = omega (arith, e) in
    let all = assertions_made sig fs (length sig.ranks) in
    let ec : clauses ≡ all.0 = adds.made_clauses ∙ ap (λ (k : ℕ). (assertions_made sig fs k).0) n in
    let em : made ≡ all.1 = adds.made_ranks ∙ ap (λ (k : ℕ). (assertions_made sig fs k).1) n in
    let es' : symbols ≡ with_ranks sig all.1 = es ∙ ap (with_ranks sig) em in
    let ew' : whole ≡ with_ranks symbols (fresh_constants symbols.sorts (has_ground symbols clauses)) = ew ∙ ap (with_ranks symbols) ef in
    let big : with_ranks symbols (fresh_constants symbols.sorts (has_ground symbols clauses)) ≡ (clause_table sig fs).sig = (λ i. with_ranks (es' i) (fresh_constants (es' i).sorts (has_ground (es' i) (ec i)))) in
    λ i. record { sig = (ew' ∙ big) i; user = e i; clauses = ec i }
