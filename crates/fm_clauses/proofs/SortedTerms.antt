-- Sorts of terms, atoms and clauses over a larger signature, under more variables, and renumbered.
use Rattle.std.proofs.Common.{◌≡◌, ℕ, zero, suc, Bool, true, false, ◌&&◌, cond, List, [], ◌∷◌, ◌++◌, length, map, Option, Some, None, ap, refl, sym, subst, ◌∙◌, arith, append_assoc, length-append}
use Rattle.std.specs.Prelude.{nat_lt, slice_get}
use Rattle.std.specs.List.{list_all, list_any}
use Rattle.std.proofs.lemmas.Bool.{and_parts, and_from, eq-eqb, or_left, or_right}
use Rattle.fm_base.specs.Truth.{Sort, are_arguments, declared_sort, have_one_sort, is_bool, is_of_sort, is_predicate_of, result_of}
use Rattle.fm_base.specs.declared.ids.SortId.{SortId}
use Rattle.fm_base.specs.declared.ids.SymId.{SymId}
use Rattle.fm_base.specs.declared.signature.Rank.{Rank}
use Rattle.fm_base.specs.declared.signature.Sig.{Sig}
use Rattle.fm_base.specs.declared.signature.Ty.{Ty}
use Rattle.fm_base.specs.declared.formula.Patom.{Patom}
use Rattle.fm_base.specs.declared.formula.Pterm
use Rattle.fm_base.specs.declared.formula.Pterm.{Pterm}
use Rattle.fm_base.specs.declared.formula.Pterm.TheOpen.{Pterm-F}
use Rattle.fm_base.specs.declared.formula.Pterm.TheFolds.{fold-roll-Pterm}
use Rattle.fm_base.proofs.NormalTerms.{Each, term_induction}
use Rattle.fm_bank.specs.Sorted.{are_sorted_literals, is_sorted_atom, is_sorted_clause, sort_of, sort_step}
use Rattle.fm_bank.specs.declared.clause.Clause.{Clause}
use Rattle.fm_bank.specs.declared.clause.Plit.{Plit}
use Rattle.fm_bank.proofs.Lengths.{sort_of_var}
use Rattle.fm_nnf.specs.NormalForm.{all_variables}
use Rattle.fm_nnf.specs.Places.{Occurs, kept, later, place}
use Rattle.fm_nnf.proofs.Coincidence.{Extends}
use Rattle.fm_nnf.proofs.Sorting.{get_front, of_sort_from, of_sort_parts, one_sort_from, one_sort_parts, predicate_from, predicate_parts, result_from, result_parts}
use Rattle.fm_clauses.specs.Narrow.{Renamed, clause_of, occurs, occurs_in_atom, occurs_in_term, renamed, renamed_atom, renamed_literal}
use Rattle.fm_clauses.proofs.Terms.{occurs_of_app, occurs_of_var, renamed_of_app, renamed_of_var}

pub sort_of_app : (f : SymId) (ts : List Pterm) (sig : Sig) (scope : List SortId) → sort_of (Pterm.App f ts) sig scope ≡ result_of (map sort_of ts) (slice_get sig.ranks f.0) sig scope
unfolding Pterm.roll-Pterm denote.Hole.Carrier.roll
sort_of_app f ts sig scope = ap (λ (k : Sort). k sig scope) (fold-roll-Pterm Sort sort_step (Pterm-F.App f ts))

abbrev pub in_range : Sig → List SortId → Bool
in_range sig scope = list_all (λ (s : SortId). nat_lt s.0 sig.sorts) scope

-- a larger signature, and more variables behind those in scope
abbrev pub Widens : List SortId → List SortId → Type 0
Widens scope wide = (v : ℕ) (s : SortId) → slice_get scope v ≡ Some s → slice_get wide v ≡ Some s

module _ (sig big : Sig) (scope wide : List SortId) (more : Extends sig big) (wider : Widens scope wide) where
  abbrev Stays : Pterm → Type 0
  Stays t = (s : SortId) → sort_of t sig scope ≡ Some s → sort_of t big wide ≡ Some s

  stays_all : (ts : List Pterm) → Each Stays ts → (types : List Ty) → are_arguments (map sort_of ts) types sig scope ≡ true → are_arguments (map sort_of ts) types big wide ≡ true
  stays_all [] each [] e = refl
  stays_all [] each (u ∷ us) e = e
  stays_all (t ∷ ts) each [] e = e
  stays_all (t ∷ ts) each (u ∷ us) e =
      let p = and_parts (is_of_sort (sort_of t sig scope) u) (are_arguments (map sort_of ts) us sig scope) e in
      let q = of_sort_parts (sort_of t sig scope) u p.0 in
      let is = each.0 q.0 q.1 in
      let head : is_of_sort (sort_of t big wide) u ≡ true = (λ i. is_of_sort (is i) (q.2 i)) ∙ of_sort_from q.0 in
      and_from (is_of_sort (sort_of t big wide) u) (are_arguments (map sort_of ts) us big wide) head (stays_all ts each.1 us p.1)

  stays_app : (f : SymId) (ts : List Pterm) → Each Stays ts → Stays (Pterm.App f ts)
  stays_app f ts each s e =
      let p = result_parts (map sort_of ts) (slice_get sig.ranks f.0) sig scope s (sym (sort_of_app f ts sig scope) ∙ e) in
      sort_of_app f ts big wide ∙ result_from (map sort_of ts) (slice_get big.ranks f.0) big wide s p.0 (more.ranks f.0 p.0 p.1) p.2 (stays_all ts each p.0.args p.3)

  pub sort_stays : (t : Pterm) → Stays t
  sort_stays = term_induction Stays (λ v s e. sort_of_var v big wide ∙ wider v s (sym (sort_of_var v sig scope) ∙ e)) stays_app

  pub arguments_stay : (ts : List Pterm) (types : List Ty) → are_arguments (map sort_of ts) types sig scope ≡ true → are_arguments (map sort_of ts) types big wide ≡ true
  arguments_stay ts types e = stays_all ts (every_stays ts) types e where
    every_stays : (ts : List Pterm) → Each Stays ts
    every_stays [] = tt
    every_stays (t ∷ ts) = (sort_stays t, every_stays ts)

  pub atom_stays : (a : Patom) → is_sorted_atom sig scope a ≡ true → is_sorted_atom big wide a ≡ true
  atom_stays (Patom.Pred p ts) e =
      let q = predicate_parts (map sort_of ts) (slice_get sig.ranks p.0) sig scope e in
      predicate_from (map sort_of ts) (slice_get big.ranks p.0) big wide q.0 (more.ranks p.0 q.0 q.1) q.2 (arguments_stay ts q.0.args q.3)
  atom_stays (Patom.Equal a b) e =
      let q = one_sort_parts (sort_of a sig scope) (sort_of b sig scope) e in
      one_sort_from (sort_of a big wide) (sort_of b big wide) q.0 (sort_stays a q.0 q.1) (sort_stays b q.0 q.2)

  pub literals_stay : (ls : List Plit) → are_sorted_literals sig scope ls ≡ true → are_sorted_literals big wide ls ≡ true
  literals_stay [] e = refl
  literals_stay (l ∷ ls) e =
      let p = and_parts (is_sorted_atom sig scope l.atom) (are_sorted_literals sig scope ls) e in
      and_from (is_sorted_atom big wide l.atom) (are_sorted_literals big wide ls) (atom_stays l.atom p.0) (literals_stay ls p.1)

pub same_scope : (scope : List SortId) → Widens scope scope
same_scope scope v s e = e

pub more_scope : (scope vars : List SortId) → Widens scope (scope ++ vars)
more_scope scope vars v s e = get_front scope vars v s e

pub same_signature : (sig : Sig) → Extends sig sig
same_signature sig = record { sorts = refl; ranks = λ f r e. e }

pub range_stays : (sig big : Sig) (scope : List SortId) → Extends sig big → in_range sig scope ≡ true → in_range big scope ≡ true
range_stays sig big scope more e = subst (λ (n : ℕ). list_all (λ (s : SortId). nat_lt s.0 n) scope ≡ true) (sym more.sorts) e

pub clause_stays : (sig big : Sig) (c : Clause) → Extends sig big → is_sorted_clause sig c ≡ true → is_sorted_clause big c ≡ true
clause_stays sig big c more e =
    let p = and_parts (in_range sig c.vars) (are_sorted_literals sig c.vars c.lits) e in
    and_from (in_range big c.vars) (are_sorted_literals big c.vars c.lits) (range_stays sig big c.vars more p.0) (literals_stay sig big c.vars c.vars more (same_scope c.vars) c.lits p.1)

-- lists

pub all_append : {X : Type 0} (f : X → Bool) (xs ys : List X) → list_all f xs ≡ true → list_all f ys ≡ true → list_all f (xs ++ ys) ≡ true
all_append f [] ys p q = q
all_append f (x ∷ xs) ys p q = let r = and_parts (f x) (list_all f xs) p in and_from (f x) (list_all f (xs ++ ys)) r.0 (all_append f xs ys r.1 q)

all_kept_step : {X : Type 0} (b : Bool) (f : X → Bool) (x : X) (xs : List X) → f x ≡ true → list_all f xs ≡ true → list_all f (cond b (x ∷ xs) xs) ≡ true
all_kept_step true f x xs h e = and_from (f x) (list_all f xs) h e
all_kept_step false f x xs h e = e

pub all_kept : {X : Type 0} (p : Occurs) (f : X → Bool) (xs : List X) → list_all f xs ≡ true → list_all f (kept p xs) ≡ true
all_kept p f [] e = refl
all_kept p f (x ∷ xs) e = let q = and_parts (f x) (list_all f xs) e in all_kept_step (p zero) f x (kept (later p) xs) q.0 (all_kept (later p) f xs q.1)

get_step : {X : Type 0} (b : Bool) (x : X) (ks : List X) (n : ℕ) → slice_get (cond b (x ∷ ks) ks) (cond b (suc n) n) ≡ slice_get ks n
get_step true x ks n = refl
get_step false x ks n = refl

pub kept_get : {X : Type 0} (p : Occurs) (xs : List X) (v : ℕ) → p v ≡ true → slice_get (kept p xs) (place p v) ≡ slice_get xs v
unfolding place
kept_get p [] v h = refl
kept_get p (x ∷ xs) zero h = ap (λ (b : Bool). slice_get (cond b (x ∷ kept (later p) xs) (kept (later p) xs)) zero) h
kept_get p (x ∷ xs) (suc v) h = get_step (p zero) x (kept (later p) xs) (place (later p) v) ∙ kept_get (later p) xs v h

pub get_seam : {X : Type 0} (pre : List X) (x : X) (xs : List X) → slice_get (pre ++ x ∷ xs) (length pre) ≡ Some x
get_seam [] x xs = refl
get_seam (y ∷ pre) x xs = get_seam pre x xs

-- a term renumbered has the sort that it had, where the variables that occur in it have theirs

abbrev pub Finds : Occurs → (ℕ → ℕ) → List SortId → List SortId → Type 0
Finds p g narrow wide = (v : ℕ) → p v ≡ true → slice_get narrow (g v) ≡ slice_get wide v

result_same : (ks js : List Sort) (o : Option Rank) (sig : Sig) (narrow wide : List SortId) → ((types : List Ty) → are_arguments ks types sig narrow ≡ are_arguments js types sig wide) → result_of ks o sig narrow ≡ result_of js o sig wide
result_same ks js None sig narrow wide h = refl
result_same ks js (Some rank) sig narrow wide h = ap (λ (b : Bool). cond b (declared_sort rank.result) None) (h rank.args)

predicate_same : (ks js : List Sort) (o : Option Rank) (sig : Sig) (narrow wide : List SortId) → ((types : List Ty) → are_arguments ks types sig narrow ≡ are_arguments js types sig wide) → is_predicate_of ks o sig narrow ≡ is_predicate_of js o sig wide
predicate_same ks js None sig narrow wide h = refl
predicate_same ks js (Some rank) sig narrow wide h = ap (λ (b : Bool). is_bool rank.result && b) (h rank.args)

module _ (sig : Sig) (g : ℕ → ℕ) (narrow wide : List SortId) where
  abbrev SameSort : Pterm → Type 0
  SameSort t = Finds (occurs_in_term t) g narrow wide → sort_of (renamed t g) sig narrow ≡ sort_of t sig wide

  same_var : (v : ℕ) → SameSort (Pterm.Var v)
  same_var v finds =
      ap (λ (t : Pterm). sort_of t sig narrow) (renamed_of_var v g) ∙ sort_of_var (g v) sig narrow ∙ finds v (occurs_of_var v v ∙ eq-eqb v v refl) ∙ sym (sort_of_var v sig wide)

  abbrev SomeOccurs : List Pterm → Occurs
  SomeOccurs ts k = list_any (λ (t : Occurs). t k) (map occurs_in_term ts)

  same_all : (ts : List Pterm) → Each SameSort ts → Finds (SomeOccurs ts) g narrow wide → (types : List Ty) → are_arguments (map sort_of (map (λ (t : Renamed). t g) (map renamed ts))) types sig narrow ≡ are_arguments (map sort_of ts) types sig wide
  same_all [] each finds [] = refl
  same_all [] each finds (u ∷ us) = refl
  same_all (t ∷ ts) each finds [] = refl
  same_all (t ∷ ts) each finds (u ∷ us) =
      let head = each.0 (λ v h. finds v (or_left (occurs_in_term t v) (SomeOccurs ts v) h)) in
      let tail = same_all ts each.1 (λ v h. finds v (or_right (occurs_in_term t v) (SomeOccurs ts v) h)) us in
      λ i. is_of_sort (head i) u && tail i

  same_app : (f : SymId) (ts : List Pterm) → Each SameSort ts → SameSort (Pterm.App f ts)
  same_app f ts each finds =
      let all = same_all ts each (λ v h. finds v (occurs_of_app f ts v ∙ h)) in
      ap (λ (t : Pterm). sort_of t sig narrow) (renamed_of_app f ts g) ∙ sort_of_app f (map (λ (t : Renamed). t g) (map renamed ts)) sig narrow
      ∙ result_same (map sort_of (map (λ (t : Renamed). t g) (map renamed ts))) (map sort_of ts) (slice_get sig.ranks f.0) sig narrow wide all ∙ sym (sort_of_app f ts sig wide)

  same_sort_of : (t : Pterm) → SameSort t
  same_sort_of = term_induction SameSort same_var same_app

  same_arguments : (ts : List Pterm) → Finds (λ k. list_any (λ (t : Pterm). occurs_in_term t k) ts) g narrow wide → (types : List Ty) → are_arguments (map sort_of (map (λ (t : Pterm). renamed t g) ts)) types sig narrow ≡ are_arguments (map sort_of ts) types sig wide
  same_arguments [] finds [] = refl
  same_arguments [] finds (u ∷ us) = refl
  same_arguments (t ∷ ts) finds [] = refl
  same_arguments (t ∷ ts) finds (u ∷ us) =
      let head = same_sort_of t (λ v h. finds v (or_left (occurs_in_term t v) (list_any (λ (s : Pterm). occurs_in_term s v) ts) h)) in
      let tail = same_arguments ts (λ v h. finds v (or_right (occurs_in_term t v) (list_any (λ (s : Pterm). occurs_in_term s v) ts) h)) us in
      λ i. is_of_sort (head i) u && tail i

  same_sorted_atom : (a : Patom) → Finds (occurs_in_atom a) g narrow wide → is_sorted_atom sig narrow (renamed_atom g a) ≡ is_sorted_atom sig wide a
  same_sorted_atom (Patom.Pred p ts) finds = predicate_same (map sort_of (map (λ (t : Pterm). renamed t g) ts)) (map sort_of ts) (slice_get sig.ranks p.0) sig narrow wide (same_arguments ts finds)
  same_sorted_atom (Patom.Equal a b) finds =
      let left = same_sort_of a (λ v h. finds v (or_left (occurs_in_term a v) (occurs_in_term b v) h)) in
      let right = same_sort_of b (λ v h. finds v (or_right (occurs_in_term a v) (occurs_in_term b v) h)) in
      λ i. have_one_sort (left i) (right i)

  same_sorted_literals : (lits : List Plit) → Finds (occurs lits) g narrow wide → are_sorted_literals sig narrow (map (renamed_literal g) lits) ≡ are_sorted_literals sig wide lits
  same_sorted_literals [] finds = refl
  same_sorted_literals (l ∷ lits) finds =
      let head = same_sorted_atom l.atom (λ v h. finds v (or_left (occurs_in_atom l.atom v) (occurs lits v) h)) in
      let tail = same_sorted_literals lits (λ v h. finds v (or_right (occurs_in_atom l.atom v) (occurs lits v) h)) in
      λ i. head i && tail i

-- the clause of the variables that occur
pub clause_sorted : (sig : Sig) (scope : List SortId) (lits : List Plit) → in_range sig scope ≡ true → are_sorted_literals sig scope lits ≡ true → is_sorted_clause sig (clause_of scope lits) ≡ true
clause_sorted sig scope lits range h =
    let p = occurs lits in
    and_from (in_range sig (kept p scope)) (are_sorted_literals sig (kept p scope) (map (renamed_literal (place p)) lits)) (all_kept p (λ (s : SortId). nat_lt s.0 sig.sorts) scope range)
    (same_sorted_literals sig (place p) (kept p scope) scope lits (λ v o. kept_get p scope v o) ∙ h)

-- the variables of a scope, and a symbol applied to all of them

abbrev pub types_of : List SortId → List Ty
types_of scope = map (λ (s : SortId). Ty.Of s) scope

pub variables_are : (sig : Sig) (k : ℕ) (pre ss : List SortId) → k ≡ length pre → are_arguments (map sort_of (all_variables k ss)) (types_of ss) sig (pre ++ ss) ≡ true
variables_are sig k pre [] e = refl
variables_are sig k pre (s ∷ ss) e =
    let head : sort_of (Pterm.Var k) sig (pre ++ s ∷ ss) ≡ Some s = sort_of_var k sig (pre ++ s ∷ ss) ∙ ap (slice_get (pre ++ s ∷ ss)) e ∙ get_seam pre s ss in
    let l = length-append pre (s ∷ []) in
    let rest = variables_are sig (suc k) (pre ++ s ∷ []) ss (omega (arith, l, e)) in
    let tail = subst (λ (scope : List SortId). are_arguments (map sort_of (all_variables (suc k) ss)) (types_of ss) sig scope ≡ true) (append_assoc pre (s ∷ []) ss) rest in
    (λ i. is_of_sort (head i) (Ty.Of s) && tail i) ∙ ap (λ (b : Bool). b && true) (of_sort_from s)

pub proxy_sorted : (sig : Sig) (scope : List SortId) (p : ℕ) (rank : Rank) → slice_get sig.ranks p ≡ Some rank → rank.args ≡ types_of scope → rank.result ≡ Ty.Bool → is_sorted_atom sig scope (Patom.Pred (record { 0 = p }) (all_variables zero scope)) ≡ true
proxy_sorted sig scope p rank e a b =
    predicate_from (map sort_of (all_variables zero scope)) (slice_get sig.ranks p) sig scope rank e (ap is_bool b)
    (ap (λ (types : List Ty). are_arguments (map sort_of (all_variables zero scope)) types sig scope) a ∙ variables_are sig zero [] scope refl)
