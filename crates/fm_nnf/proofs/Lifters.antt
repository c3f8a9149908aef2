-- What is lifted one after the other.
use Rattle.std.proofs.Common.{◌≡◌, ℕ, zero, ◌+◌, ◌<◌, ◌≤◌, Bool, List, [], ◌∷◌, ◌++◌, length, map, get_or, drop, ap, refl, sym, subst, ◌∙◌, arith, append_assoc, length-append}
use Rattle.std.proofs.lemmas.List.{append-nil, drop_all}
use Rattle.fm_base.specs.declared.ids.SortId.{SortId}
use Rattle.fm_base.specs.declared.signature.Rank.{Rank}
use Rattle.fm_base.specs.declared.signature.Sig.{Sig}
use Rattle.fm_base.specs.declared.signature.Ty.{Ty}
use Rattle.fm_base.specs.declared.formula.Formula.{Formula}
use Rattle.fm_base.specs.declared.formula.Fterm.{Fterm}
use Rattle.fm_nnf.specs.declared.lifting.Made.{Made}
use Rattle.fm_nnf.specs.Lifting.{Lifter, Parts, both, choice_of, closed_over, is_choice, lift_all, lift_choice, lift_formula, lift_term, lifts, own_term, parts_renamed, rank_over, stays, symbol_term, term_variables}
use Rattle.fm_nnf.specs.Marked.{definition_by, marked, rank_by}
use Rattle.fm_nnf.specs.Places.{kept, place}
use Rattle.fm_nnf.specs.Made.{Lifts, formulas_of, terms_of}
use Rattle.fm_nnf.proofs.Adding.{drop_read}
use Rattle.fm_nnf.proofs.Renumbering.{numbers_are_places}

pub lifts_both : {A B : Type 0} (j : Lifter A) (k : Lifter B) (scope : List SortId) (first : ℕ) (s0 s1 s2 : Made) (x : A) (y : B) → Lifts j scope first s0 s1 x → Lifts k scope first s1 s2 y → Lifts (both j k) scope first s0 s2 (x, y)
lifts_both j k scope first s0 s1 s2 x y one two =
    let r = j scope (first + length s0.ranks.items) in
    let q = k scope (first + length s0.ranks.items + length r.ranks) in
    let n : first + length s1.ranks.items ≡ first + length s0.ranks.items + length r.ranks = (let e = ap length one.2 in let l = length-append s0.ranks.items r.ranks in omega (arith, e, l)) in
    let head = one.0 in
    let tail = two.0 ∙ ap (λ (m : ℕ). (k scope m).made) n in
    let definitions = one.1 in
    let ranks = one.2 in (
      (λ i. (head i, tail i)),
      two.1 ∙ (λ i. definitions i ++ (k scope (n i)).definitions) ∙ append_assoc s0.definitions.items r.definitions q.definitions,
      two.2 ∙ (λ i. ranks i ++ (k scope (n i)).ranks) ∙ append_assoc s0.ranks.items r.ranks q.ranks,
    )

lifts_none : {A : Type 0} (scope : List SortId) (first : ℕ) (s : Made) → Lifts (lift_all {A = A} []) scope first s s []
lifts_none scope first s = (refl, sym (append-nil s.definitions.items), sym (append-nil s.ranks.items))

lifts_more : {A : Type 0} (k : Lifter A) (ks : List (Lifter A)) (scope : List SortId) (first : ℕ) (s0 s1 s2 : Made) (x : A) (xs : List A) → Lifts k scope first s0 s1 x → Lifts (lift_all ks) scope first s1 s2 xs → Lifts (lift_all (k ∷ ks)) scope first s0 s2 (x ∷ xs)
lifts_more k ks scope first s0 s1 s2 x xs one two = let h = lifts_both k (lift_all ks) scope first s0 s1 s2 x xs one two in (ap (λ p. p.0 ∷ p.1) h.0, h.1, h.2)

pub formulas_more : (sig : Sig) (fs : List Formula) (i : ℕ) (f : Formula) → i < length fs → f ≡ get_or fs i f → (scope : List SortId) (first : ℕ) (s0 s1 s2 : Made) (x : Formula) (xs : List Formula) → Lifts (lift_formula sig f) scope first s0 s1 x
    → Lifts (formulas_of sig (drop (i + 1) fs)) scope first s1 s2 xs → Lifts (formulas_of sig (drop i fs)) scope first s0 s2 (x ∷ xs)
formulas_more sig fs i f lt e scope first s0 s1 s2 x xs one two = subst (λ gs. Lifts (formulas_of sig gs) scope first s0 s2 (x ∷ xs)) (sym (drop_read fs i f lt e)) (lifts_more (lift_formula sig f) (map (lift_formula sig) (drop (i + 1) fs)) scope first s0 s1 s2 x xs one two)

pub formulas_none : (sig : Sig) (fs : List Formula) (i : ℕ) → length fs ≤ i → (scope : List SortId) (first : ℕ) (s : Made) → Lifts (formulas_of sig (drop i fs)) scope first s s []
formulas_none sig fs i le scope first s = subst (λ gs. Lifts (formulas_of sig gs) scope first s s []) (sym (drop_all i fs le)) (lifts_none {A = Formula} scope first s)

pub terms_more : (sig : Sig) (ts : List Fterm) (i : ℕ) (t : Fterm) → i < length ts → t ≡ get_or ts i t → (scope : List SortId) (first : ℕ) (s0 s1 s2 : Made) (x : Fterm) (xs : List Fterm) → Lifts (lift_term sig t).lift scope first s0 s1 x
    → Lifts (terms_of sig (drop (i + 1) ts)) scope first s1 s2 xs → Lifts (terms_of sig (drop i ts)) scope first s0 s2 (x ∷ xs)
terms_more sig ts i t lt e scope first s0 s1 s2 x xs one two = subst (λ us. Lifts (terms_of sig us) scope first s0 s2 (x ∷ xs)) (sym (drop_read ts i t lt e)) (lifts_more (lift_term sig t).lift (lifts (map (lift_term sig) (drop (i + 1) ts))) scope first s0 s1 s2 x xs one two)

pub terms_none : (sig : Sig) (ts : List Fterm) (i : ℕ) → length ts ≤ i → (scope : List SortId) (first : ℕ) (s : Made) → Lifts (terms_of sig (drop i ts)) scope first s s []
terms_none sig ts i le scope first s = subst (λ us. Lifts (terms_of sig us) scope first s s []) (sym (drop_all i ts le)) (lifts_none {A = Fterm} scope first s)

-- the parts of a term `ite`, then its symbol
pub lifts_choose : (k : Lifter Parts) (type : List SortId → Ty) (scope : List SortId) (first : ℕ) (s0 s1 s2 : Made) (parts : Parts) (t : Fterm) → Lifts k scope first s0 s1 parts → Lifts (choice_of parts (type scope)) scope first s1 s2 t → Lifts (lift_choice k type) scope first s0 s2 t
lifts_choose k type scope first s0 s1 s2 parts t one two =
    let r = k scope (first + length s0.ranks.items) in
    let q = choice_of r.made (type scope) scope (first + length s0.ranks.items + length r.ranks) in
    let n : first + length s1.ranks.items ≡ first + length s0.ranks.items + length r.ranks = (let e = ap length one.2 in let l = length-append s0.ranks.items r.ranks in omega (arith, e, l)) in
    let parts_are = one.0 in
    let definitions = one.1 in
    let ranks = one.2 in (
      two.0 ∙ (λ i. (choice_of (parts_are i) (type scope) scope (n i)).made),
      two.1 ∙ (λ i. definitions i ++ (choice_of (parts_are i) (type scope) scope (n i)).definitions) ∙ append_assoc s0.definitions.items r.definitions q.definitions,
      two.2 ∙ (λ i. ranks i ++ (choice_of (parts_are i) (type scope) scope (n i)).ranks) ∙ append_assoc s0.ranks.items r.ranks q.ranks,
    )

-- the symbol of a term `ite`, where marks say what stands free
abbrev pub choice_by : List Bool → Parts → Ty → Lifter Fterm
choice_by marks parts type scope next =
    record {
      made = symbol_term next (kept (marked marks) (term_variables zero scope));
      definitions = definition_by marks parts scope next ∷ [];
      ranks = rank_by marks scope type ∷ [];
    }

pub chosen : (marks : List Bool) (parts : Parts) (type : Ty) (scope : List SortId) (next : ℕ) → ((k : ℕ) → marked marks k ≡ stays (length scope) parts k) → choice_by marks parts type scope next ≡ choice_of parts type scope next
chosen marks parts type scope next h =
    let p : marked marks ≡ stays (length scope) parts = λ i k. h k i in
    let g = numbers_are_places marks ∙ ap place p in
    λ i. record {
      made = symbol_term next (kept (p i) (term_variables zero scope));
      definitions = closed_over (kept (p i) scope) (is_choice (own_term next (kept (p i) scope)) (parts_renamed parts (g i))) ∷ [];
      ranks = rank_over (kept (p i) scope) type ∷ [];
    }

pub defined : (marks : List Bool) (parts : Parts) (type : Ty) (scope : List SortId) (first symbol : ℕ) (old new : Made) (term : Fterm) (definition : Formula) (rank : Rank) → ((k : ℕ) → marked marks k ≡ stays (length scope) parts k) → symbol ≡ first + length old.ranks.items
    → term ≡ (choice_by marks parts type scope symbol).made → definition ∷ [] ≡ (choice_by marks parts type scope symbol).definitions → rank ∷ [] ≡ (choice_by marks parts type scope symbol).ranks
    → new.definitions.items ≡ old.definitions.items ++ definition ∷ [] → new.ranks.items ≡ old.ranks.items ++ rank ∷ [] → Lifts (choice_of parts type) scope first old new term
defined marks parts type scope first symbol old new term definition rank h n t d r ds rs =
    let e = ap (choice_by marks parts type scope) n ∙ chosen marks parts type scope (first + length old.ranks.items) h in
    (t ∙ ap (λ l. l.made) e, ds ∙ ap (λ fs. old.definitions.items ++ fs) (d ∙ ap (λ l. l.definitions) e), rs ∙ ap (λ fs. old.ranks.items ++ fs) (r ∙ ap (λ l. l.ranks) e))
