-- Every command leaves an assertion stack well sorted.
use Rattle.std.proofs.Common.{◌≡◌, ℕ, zero, suc, ◌+◌, ◌-◌, ◌<◌, ◌≤◌, ◌==◌, Bool, true, false, not, cond, List, [], ◌∷◌, ◌++◌, map, length, take, Option, Some, None, ap, refl, sym, subst, ◌∙◌, arith}
use Rattle.std.specs.Prelude.{Err, Ok, Result, ◌&&◌, codes, min, nat_le, nat_lt, slice_get}
use Rattle.std.specs.List.{All, AllByRecursion, list_all}
use Rattle.std.specs.Str.{bytes_eq}
use Rattle.std.proofs.lemmas.Bool.{and_parts, and_from, false≢true, leb-false, lt-ltb, ltb-true}
use Rattle.std.proofs.lemmas.List.{length-append, map-append}
use Rattle.std.proofs.lemmas.Option.{slice_get_within}
use Rattle.fm_base.specs.Interpretations.{is_sort_of}
use Rattle.fm_base.specs.Truth.{is_bool, is_closed}
use Rattle.fm_base.specs.declared.formula.Formula.{Formula}
use Rattle.fm_base.specs.declared.refusal.Place.{Place}
use Rattle.fm_base.specs.declared.refusal.Reason.{Reason}
use Rattle.fm_base.specs.declared.refusal.Refusal.{Refusal}
use Rattle.fm_base.specs.declared.signature.Rank.{Rank}
use Rattle.fm_base.specs.declared.signature.Sig.{Sig}
use Rattle.fm_base.specs.declared.signature.Ty.{Ty}
use Rattle.fm_sexp.specs.declared.items.Sexp.{Sexp}
use Rattle.fm_script.specs.Commands.{members_of, name_of, place_of_item}
use Rattle.fm_script.specs.Shown.{Name, Numeral, Shown}
use Rattle.fm_arena.specs.Meanings.{named, no_names}
use Rattle.fm_levels.specs.Levels.{in_newest, joined, put}
use Rattle.fm_levels.specs.Tables.{looked_up}
use Rattle.fm_apply.specs.Applied.{Bound, Context, Function, Named, Sort, and_then, function_by, refused, same_type}
use Rattle.fm_terms.specs.Elaborate.{Read, elaborated, items_in, repeated, unless_repeated}
use Rattle.fm_terms.specs.Scoped.{bound_to_terms, names_of, parameters_from}
use Rattle.fm_elab.specs.Sorted.{AreAnywhere, AreSortedFrom, IsSortedContext, IsSortedFunction, IsSortedMeaning, IsSortedRead, IsSortedTerm, Known, nothing_known, parameters, takes_no_truth}
use Rattle.fm_elab.specs.SortLaw.{AreSorts, Front, Includes, IsLastingFormula, IsLastingFunction, IsSortedFront, IsSortedProblem, IsSortedState, front, front_signature, ranks_in, take_no_truths}
use Rattle.fm_elab.specs.Sizes.{is_large}
use Rattle.fm_elab.specs.Stacks.{State, closed, fewer_levels, is_function_taken, is_sort_taken, level_count, more_levels, next_function, next_sort, opened, put_all, signature, start, with_assertion, with_declared_sort, with_definitions, with_sort, with_symbol}
use Rattle.fm_elab.specs.Steps.{Next, argument_sort, assert_term, asserted, context_at, count_of, declare_function, declare_sort, define_function, define_sort, defined, definition, each_sort, formula_of, found_sort, given_in, has_members, is_logic, is_true_name, pop, push, refused_where, set_option, sort_at, sort_by_name, sort_entry, step_of}
use Rattle.fm_elab.proofs.Placing.{length_fewer, length_more, length_put, length_put_all}
use Rattle.fm_elab.proofs.SortedTerms.{name_sorted, wider_sorted}
use Rattle.fm_elab.proofs.SortedCore.{either, went_on}
use Rattle.fm_elab.proofs.SortedReads.{all_both, elaborated_sorted}
use Rattle.fm_elab.proofs.SortedLevels.{all_mapped, all_there, all_with, front_of_all, front_of_fewer, front_of_more, last_there, low_fewer, low_more, low_put, low_single, put_kept, reaches}

-- answers

pub state_is : (s t : State) → ◌≡◌ {A = Next} (Ok s) (Ok t) → s ≡ t
state_is s t e = cc e

no_state : (r : Refusal) (t : State) → ◌≡◌ {A = Next} (Err r) (Ok t) → ⊥
no_state r t e = cc e

pub passed : (wrong : Bool) (reason : Reason) (at : Place) (next : Next) (t : State) → refused_where wrong reason at next ≡ Ok t → (wrong ≡ false) × (next ≡ Ok t)
passed true reason at next t e = absurd (no_state (refused reason at) t e)
passed false reason at next t e = (refl, e)

pub not_repeated : (o : Option Place) (a : Next) (t : State) → unless_repeated o a ≡ Ok t → a ≡ Ok t
not_repeated None a t h = h
not_repeated (Some at) a t h = cc h

-- larger signatures

includes_self : (sig : Sig) → Includes sig sig
includes_self sig = record { sorts = omega arith; ranks = λ f rank e. e }

includes_trans : (a b c : Sig) → Includes a b → Includes b c → Includes a c
includes_trans a b c p q = let m = p.sorts in let n = q.sorts in record { sorts = omega (arith, m, n); ranks = λ f rank e. p.ranks f rank (q.ranks f rank e) }

longer_function : (small big : Sig) (f : Function) → Includes big small → IsLastingFunction small f → IsLastingFunction big f
longer_function small big f i h top t = h top (includes_trans top big small t i)

longer_formula : (small big : Sig) (f : Formula) → Includes big small → IsLastingFormula small f → IsLastingFormula big f
longer_formula small big f i h top t = h top (includes_trans top big small t i)

-- types that name declared sorts

sort_more : (n m : ℕ) (ty : Ty) → n ≤ m → is_sort_of n ty ≡ true → is_sort_of m ty ≡ true
sort_more n m Ty.Bool l e = refl
sort_more n m (Ty.Of s) l e = let k = ltb-true s.0 n e in lt-ltb s.0 m (omega (arith, k, l))

sorts_more : (n m : ℕ) (tys : List Ty) → n ≤ m → list_all (is_sort_of n) tys ≡ true → list_all (is_sort_of m) tys ≡ true
sorts_more n m [] l e = refl
sorts_more n m (ty ∷ tys) l e =
    let p = and_parts (is_sort_of n ty) (list_all (is_sort_of n) tys) e in
    and_from (is_sort_of m ty) (list_all (is_sort_of m) tys) (sort_more n m ty l p.0) (sorts_more n m tys l p.1)

abbrev is_rank : ℕ → Rank → Bool
is_rank n r = list_all (is_sort_of n) r.args && is_sort_of n r.result

rank_more : (n m : ℕ) (r : Rank) → n ≤ m → is_rank n r ≡ true → is_rank m r ≡ true
rank_more n m r l e =
    let p = and_parts (list_all (is_sort_of n) r.args) (is_sort_of n r.result) e in
    and_from (list_all (is_sort_of m) r.args) (is_sort_of m r.result) (sorts_more n m r.args l p.0) (sort_more n m r.result l p.1)

ranks_more : (n m : ℕ) (rs : List Rank) → n ≤ m → list_all (is_rank n) rs ≡ true → list_all (is_rank m) rs ≡ true
ranks_more n m [] l e = refl
ranks_more n m (r ∷ rs) l e =
    let p = and_parts (is_rank n r) (list_all (is_rank n) rs) e in
    and_from (is_rank m r) (list_all (is_rank m) rs) (rank_more n m r l p.0) (ranks_more n m rs l p.1)

all_more : {A : Type 0} (test : A → Bool) (xs : List A) (x : A) → list_all test xs ≡ true → test x ≡ true → list_all test (xs ++ x ∷ []) ≡ true
all_more test [] x e t = and_from (test x) true t refl
all_more test (y ∷ xs) x e t =
    let p = and_parts (test y) (list_all test xs) e in
    and_from (test y) (list_all test (xs ++ x ∷ [])) p.0 (all_more test xs x p.1 t)

-- the whole stack as a front

abbrev pub whole : State → Front
whole s =
    record {
      declared_sorts = joined s.declared_sorts;
      sorts = joined s.sorts;
      symbols = joined s.symbols;
      functions = joined s.functions;
      assertions = joined s.assertions;
    }

pub whole_sorted : (s : State) → IsSortedState s → IsSortedFront (whole s)
whole_sorted s h =
    let n = length s.assertions in
    let same : front n s ≡ whole s = λ i. record {
      declared_sorts = front_of_all n s.declared_sorts h.declared_sorts i;
      sorts = front_of_all n s.sorts h.sorts i;
      symbols = front_of_all n s.symbols h.symbols i;
      functions = front_of_all n s.functions h.functions i;
      assertions = front_of_all n s.assertions refl i;
    } in
    subst IsSortedFront same (h.fronts n)

-- the number of levels of a kind
some_of : (s : State) (n : ℕ) → IsSortedState s → n ≡ length s.assertions → 0 < n
some_of s n h e = let k = h.some in omega (arith, k, e)

-- where the front has what a command puts in, it has all declarations
abbrev pub has_new : State → ℕ → Bool
has_new s k = reaches s.global k (length s.assertions)

declared_there : (s : State) (k : ℕ) → IsSortedState s → has_new s k ≡ true → joined (take k s.declared_sorts) ≡ joined s.declared_sorts
declared_there s k h e = all_there s.global k s.declared_sorts h.low_sorts (ap (reaches s.global k) h.declared_sorts ∙ e)

symbols_there : (s : State) (k : ℕ) → IsSortedState s → has_new s k ≡ true → joined (take k s.symbols) ≡ joined s.symbols
symbols_there s k h e = all_there s.global k s.symbols h.low_symbols (ap (reaches s.global k) h.symbols ∙ e)

pub signature_there : (s : State) (k : ℕ) → IsSortedState s → has_new s k ≡ true → front_signature (front k s) ≡ signature s
signature_there s k h e = λ i. record { sorts = length (declared_there s k h e i); ranks = ranks_in (symbols_there s k h e i) }

-- in the newest level
newest_there : (s : State) (k : ℕ) → IsSortedState s → reaches false k (length s.assertions) ≡ true → front_signature (front k s) ≡ signature s
newest_there s k h e =
    let d = all_there false k s.declared_sorts (λ f. absurd (false≢true f)) (ap (reaches false k) h.declared_sorts ∙ e) in
    let y = all_there false k s.symbols (λ f. absurd (false≢true f)) (ap (reaches false k) h.symbols ∙ e) in
    λ i. record { sorts = length (d i); ranks = ranks_in (y i) }

-- a declared sort

-- the declared sorts of a front, and the number of the new one
abbrev SortsGrow : State → ℕ → List ℕ → Type 0
SortsGrow s k name =
    let now = joined (take k (put s.global s.declared_sorts (name, next_sort s))) in
    (length (joined (take k s.declared_sorts)) ≤ length now) × (has_new s k ≡ true → is_sort_of (length now) (next_sort s) ≡ true)

sorts_grow_by : (s : State) (k : ℕ) (name : List ℕ) (b : Bool) → IsSortedState s → has_new s k ≡ b → SortsGrow s k name
sorts_grow_by s k name true h e =
    let was = joined (take k s.declared_sorts) in
    let now = joined (take k (put s.global s.declared_sorts (name, next_sort s))) in
    let there : now ≡ was ++ (name, next_sort s) ∷ [] = last_there s.global k s.declared_sorts (name, next_sort s) (some_of s (length s.declared_sorts) h h.declared_sorts) h.low_sorts (ap (reaches s.global k) h.declared_sorts ∙ e) in
    let long : length now ≡ length was + 1 = ap length there ∙ length-append was ((name, next_sort s) ∷ []) in
    let all : length was ≡ length (joined s.declared_sorts) = ap length (declared_there s k h e) in
    (omega (arith, long), λ t. lt-ltb (length (joined s.declared_sorts)) (length now) (omega (arith, long, all)))
sorts_grow_by s k name false h e =
    let kept = ap joined (put_kept s.global k s.declared_sorts (name, next_sort s) (ap (reaches s.global k) h.declared_sorts ∙ e)) in
    let same : length (joined (take k (put s.global s.declared_sorts (name, next_sort s)))) ≡ length (joined (take k s.declared_sorts)) = ap length kept in
    (omega (arith, same), λ t. absurd (false≢true (sym e ∙ t)))

sorts_grow : (s : State) (k : ℕ) (name : List ℕ) → IsSortedState s → SortsGrow s k name
sorts_grow s k name h = sorts_grow_by s k name (has_new s k) h refl

-- more sorts
more_sorts : (n m : ℕ) (ranks : List Rank) → n ≤ m → Includes (record { sorts = m; ranks = ranks }) (record { sorts = n; ranks = ranks })
more_sorts n m ranks l = record { sorts = l; ranks = λ f rank e. e }

declared_front : (s : State) (k : ℕ) (name : List ℕ) → IsSortedState s → IsSortedFront (front k (with_declared_sort s name))
declared_front s k name h =
    let f = front k s in
    let g = sorts_grow s k name h in
    let old = h.fronts k in
    let n = length f.declared_sorts in
    let m = length (joined (take k (put s.global s.declared_sorts (name, next_sort s)))) in
    let ranks = ranks_in f.symbols in
    let small : Sig = record { sorts = n; ranks = ranks } in
    let big : Sig = record { sorts = m; ranks = ranks } in
    let more : Includes big small = more_sorts n m ranks g.0 in
    record {
      ranks = ranks_more n m ranks g.0 old.ranks;
      truths = old.truths;
      sorts = all_with (λ (e : List ℕ × Ty). is_sort_of m e.1 ≡ true) s.global k (length s.assertions) s.sorts (name, next_sort s) h.sorts
          (all_mapped (λ (e : List ℕ × Ty). is_sort_of n e.1 ≡ true) (λ (e : List ℕ × Ty). is_sort_of m e.1 ≡ true) f.sorts (λ e p. sort_more n m e.1 g.0 p) old.sorts) g.1;
      functions = all_mapped (IsLastingFunction small) (IsLastingFunction big) f.functions (λ x p. longer_function small big x more p) old.functions;
      assertions = all_mapped (IsLastingFormula small) (IsLastingFormula big) f.assertions (λ x p. longer_formula small big x more p) old.assertions;
    }

pub declared_sort_sorted : (s : State) (name : List ℕ) → IsSortedState s → IsSortedState (with_declared_sort s name)
declared_sort_sorted s name h = record {
  some = h.some;
  declared_sorts = length_put s.global s.declared_sorts (name, next_sort s) ∙ h.declared_sorts;
  sorts = length_put s.global s.sorts (name, next_sort s) ∙ h.sorts;
  symbols = h.symbols;
  functions = h.functions;
  low_sorts = low_put s.global s.declared_sorts (name, next_sort s) h.low_sorts;
  low_symbols = h.low_symbols;
  begun = λ e. absurd (false≢true (sym e));
  fronts = λ k. declared_front s k name h;
}

-- a defined sort

defined_front : (s : State) (k : ℕ) (name : List ℕ) (ty : Ty) → IsSortedState s → is_sort_of (length (joined s.declared_sorts)) ty ≡ true → IsSortedFront (front k (with_sort s name ty))
defined_front s k name ty h t =
    let old = h.fronts k in
    let n = length (joined (take k s.declared_sorts)) in
    record {
      ranks = old.ranks;
      truths = old.truths;
      sorts = all_with (λ (e : List ℕ × Ty). is_sort_of n e.1 ≡ true) s.global k (length s.assertions) s.sorts (name, ty) h.sorts old.sorts
          (λ e. subst (λ (l : List (List ℕ × Ty)). is_sort_of (length l) ty ≡ true) (sym (declared_there s k h e)) t);
      functions = old.functions;
      assertions = old.assertions;
    }

pub defined_sort_sorted : (s : State) (name : List ℕ) (ty : Ty) → IsSortedState s → is_sort_of (length (joined s.declared_sorts)) ty ≡ true → IsSortedState (with_sort s name ty)
defined_sort_sorted s name ty h t = record {
  some = h.some;
  declared_sorts = h.declared_sorts;
  sorts = length_put s.global s.sorts (name, ty) ∙ h.sorts;
  symbols = h.symbols;
  functions = h.functions;
  low_sorts = h.low_sorts;
  low_symbols = h.low_symbols;
  begun = λ e. absurd (false≢true (sym e));
  fronts = λ k. defined_front s k name ty h t;
}

-- a declared function

get_before : {A : Type 0} (xs ys : List A) (i : ℕ) (x : A) → slice_get xs i ≡ Some x → slice_get (xs ++ ys) i ≡ Some x
get_before [] ys i x e = cc e
get_before (y ∷ xs) ys zero x e = e
get_before (y ∷ xs) ys (suc i) x e = get_before xs ys i x e

get_last : {A : Type 0} (xs : List A) (x : A) (i : ℕ) → i ≡ length xs → slice_get (xs ++ x ∷ []) i ≡ Some x
get_last [] x zero e = refl
get_last [] x (suc i) e = absurd (omega (arith, e))
get_last (y ∷ xs) x zero e = absurd (omega (arith, e))
get_last (y ∷ xs) x (suc i) e = get_last xs x i (omega (arith, e))

-- the ranks of a front, and where the new one stands
pub record RanksGrow (n : ℕ) (was now : List Rank) (rank : Rank) (place : ℕ) (has : Bool) : Type 0 where
  pub includes : Includes (record { sorts = n; ranks = now }) (record { sorts = n; ranks = was })
  pub ranks : list_all (is_rank n) now ≡ true
  pub truths : take_no_truths now ≡ true
  pub there : has ≡ true → slice_get now place ≡ Some rank

ranks_same : (n : ℕ) (was now : List Rank) (rank : Rank) (place : ℕ) → now ≡ was → list_all (is_rank n) was ≡ true → take_no_truths was ≡ true → RanksGrow n was now rank place false
ranks_same n was now rank place e r t = record {
  includes = record { sorts = omega arith; ranks = λ f q k. subst (λ (l : List Rank). slice_get l f ≡ Some q) (sym e) k };
  ranks = subst (λ (l : List Rank). list_all (is_rank n) l ≡ true) (sym e) r;
  truths = subst (λ (l : List Rank). take_no_truths l ≡ true) (sym e) t;
  there = λ f. absurd (false≢true f);
}

ranks_one : (n : ℕ) (was now : List Rank) (rank : Rank) (place : ℕ) → now ≡ was ++ rank ∷ [] → place ≡ length was → is_rank n rank ≡ true → takes_no_truth rank.args ≡ true → list_all (is_rank n) was ≡ true → take_no_truths was ≡ true → RanksGrow n was now rank place true
ranks_one n was now rank place e l k q r t = record {
  includes = record { sorts = omega arith; ranks = λ f p j. subst (λ (m : List Rank). slice_get m f ≡ Some p) (sym e) (get_before was (rank ∷ []) f p j) };
  ranks = subst (λ (m : List Rank). list_all (is_rank n) m ≡ true) (sym e) (all_more (is_rank n) was rank r k);
  truths = subst (λ (m : List Rank). take_no_truths m ≡ true) (sym e) (all_more (λ (p : Rank). takes_no_truth p.args) was rank t q);
  there = λ f. ap (λ (m : List Rank). slice_get m place) e ∙ get_last was rank place l;
}

ranks_long : (ys : List (List ℕ × Rank)) → length (ranks_in ys) ≡ length ys
ranks_long [] = refl
ranks_long (y ∷ ys) = ap suc (ranks_long ys)

symbols_grow_by : (s : State) (k : ℕ) (name : List ℕ) (rank : Rank) (b : Bool) → IsSortedState s → is_rank (length (joined s.declared_sorts)) rank ≡ true → takes_no_truth rank.args ≡ true → has_new s k ≡ b
    → RanksGrow (length (joined (take k s.declared_sorts))) (ranks_in (joined (take k s.symbols))) (ranks_in (joined (take k (put s.global s.symbols (name, rank))))) rank (length (joined s.symbols)) b
symbols_grow_by s k name rank true h r t e =
    let n = length (joined (take k s.declared_sorts)) in
    let was = joined (take k s.symbols) in
    let old = h.fronts k in
    let there = last_there s.global k s.symbols (name, rank) (some_of s (length s.symbols) h h.symbols) h.low_symbols (ap (reaches s.global k) h.symbols ∙ e) in
    let now = joined (take k (put s.global s.symbols (name, rank))) in
    let place : length (joined s.symbols) ≡ length (ranks_in was) = ap length (sym (symbols_there s k h e)) ∙ sym (ranks_long was) in
    ranks_one n (ranks_in was) (ranks_in now) rank (length (joined s.symbols)) (ap ranks_in there ∙ map-append (λ (y : List ℕ × Rank). y.1) was ((name, rank) ∷ [])) place
    (subst (λ (l : List (List ℕ × Ty)). is_rank (length l) rank ≡ true) (sym (declared_there s k h e)) r) t old.ranks old.truths
symbols_grow_by s k name rank false h r t e =
    let n = length (joined (take k s.declared_sorts)) in
    let was = joined (take k s.symbols) in
    let old = h.fronts k in
    let now = joined (take k (put s.global s.symbols (name, rank))) in
    ranks_same n (ranks_in was) (ranks_in now) rank (length (joined s.symbols)) (ap (λ (m : List (List (List ℕ × Rank))). ranks_in (joined m)) (put_kept s.global k s.symbols (name, rank) (ap (reaches s.global k) h.symbols ∙ e))) old.ranks old.truths

-- the new function is there wherever its rank is
next_lasts : (s : State) (name : List ℕ) (args : List Ty) (ty : Ty) (sig : Sig) → takes_no_truth args ≡ true → slice_get sig.ranks (length (joined s.symbols)) ≡ Some (record { args = args; result = ty }) → IsLastingFunction sig (next_function s name args ty)
next_lasts s name args ty sig t e big i = (i.ranks (length (joined s.symbols)) (record { args = args; result = ty }) e, t)

symbol_front : (s : State) (k : ℕ) (name : List ℕ) (args : List Ty) (ty : Ty) → IsSortedState s → is_rank (length (joined s.declared_sorts)) (record { args = args; result = ty }) ≡ true → takes_no_truth args ≡ true → IsSortedFront (front k (with_symbol s name args ty))
symbol_front s k name args ty h r t =
    let f = front k s in
    let rank : Rank = record { args = args; result = ty } in
    let g = symbols_grow_by s k name rank (has_new s k) h r t refl in
    let old = h.fronts k in
    let n = length f.declared_sorts in
    let now = ranks_in (joined (take k (put s.global s.symbols (name, rank)))) in
    let small : Sig = record { sorts = n; ranks = ranks_in f.symbols } in
    let big : Sig = record { sorts = n; ranks = now } in
    record {
      ranks = g.ranks;
      truths = g.truths;
      sorts = old.sorts;
      functions = all_with (IsLastingFunction big) s.global k (length s.assertions) s.functions (next_function s name args ty) h.functions
          (all_mapped (IsLastingFunction small) (IsLastingFunction big) f.functions (λ x p. longer_function small big x g.includes p) old.functions)
          (λ e. next_lasts s name args ty big t (g.there e));
      assertions = all_mapped (IsLastingFormula small) (IsLastingFormula big) f.assertions (λ x p. longer_formula small big x g.includes p) old.assertions;
    }

pub symbol_sorted : (s : State) (name : List ℕ) (args : List Ty) (ty : Ty) → IsSortedState s → is_rank (length (joined s.declared_sorts)) (record { args = args; result = ty }) ≡ true → takes_no_truth args ≡ true → IsSortedState (with_symbol s name args ty)
symbol_sorted s name args ty h r t =
    let rank : Rank = record { args = args; result = ty } in
    record {
      some = h.some;
      declared_sorts = h.declared_sorts;
      sorts = h.sorts;
      symbols = length_put s.global s.symbols (name, rank) ∙ h.symbols;
      functions = length_put s.global s.functions (next_function s name args ty) ∙ h.functions;
      low_sorts = h.low_sorts;
      low_symbols = low_put s.global s.symbols (name, rank) h.low_symbols;
      begun = λ e. absurd (false≢true (sym e));
      fronts = λ k. symbol_front s k name args ty h r t;
    }

-- definitions

functions_with : (P : Function → Type 0) (first : Bool) (k n : ℕ) (ls : List (List Function)) (fs : List Function) → length ls ≡ n → AllByRecursion P (joined (take k ls)) → (reaches first k n ≡ true → AllByRecursion P fs) → AllByRecursion P (joined (take k (put_all first ls fs)))
functions_with P first k n ls [] l a p = a
functions_with P first k n ls (f ∷ fs) l a p = functions_with P first k n (put first ls f) fs (length_put first ls f ∙ l) (all_with P first k n ls f l a (λ e. (p e).0)) (λ e. (p e).1)

definitions_front : (s : State) (k : ℕ) (fs : List Function) → IsSortedState s → AllByRecursion (IsLastingFunction (signature s)) fs → IsSortedFront (front k (with_definitions s fs))
definitions_front s k fs h a =
    let old = h.fronts k in
    let sig = front_signature (front k s) in
    record {
      ranks = old.ranks;
      truths = old.truths;
      sorts = old.sorts;
      functions = functions_with (IsLastingFunction sig) s.global k (length s.assertions) s.functions fs h.functions old.functions
          (λ e. subst (λ (g : Sig). AllByRecursion (IsLastingFunction g) fs) (sym (signature_there s k h e)) a);
      assertions = old.assertions;
    }

pub definitions_sorted : (s : State) (fs : List Function) → IsSortedState s → AllByRecursion (IsLastingFunction (signature s)) fs → IsSortedState (with_definitions s fs)
definitions_sorted s fs h a = record {
  some = h.some;
  declared_sorts = h.declared_sorts;
  sorts = h.sorts;
  symbols = h.symbols;
  functions = length_put_all s.global s.functions fs ∙ h.functions;
  low_sorts = h.low_sorts;
  low_symbols = h.low_symbols;
  begun = λ e. absurd (false≢true (sym e));
  fronts = λ k. definitions_front s k fs h a;
}

-- assertions

assertion_front : (s : State) (k : ℕ) (fs : List Function) (f : Formula) → IsSortedState s → AllByRecursion (IsLastingFunction (signature s)) fs → IsLastingFormula (signature s) f → IsSortedFront (front k (with_assertion s fs f))
assertion_front s k fs f h a c =
    let old = h.fronts k in
    let sig = front_signature (front k s) in
    record {
      ranks = old.ranks;
      truths = old.truths;
      sorts = old.sorts;
      functions = functions_with (IsLastingFunction sig) false k (length s.assertions) s.functions fs h.functions old.functions
          (λ e. subst (λ (g : Sig). AllByRecursion (IsLastingFunction g) fs) (sym (newest_there s k h e)) a);
      assertions = all_with (IsLastingFormula sig) false k (length s.assertions) s.assertions f refl old.assertions
          (λ e. subst (λ (g : Sig). IsLastingFormula g f) (sym (newest_there s k h e)) c);
    }

pub assertion_sorted : (s : State) (fs : List Function) (f : Formula) → IsSortedState s → AllByRecursion (IsLastingFunction (signature s)) fs → IsLastingFormula (signature s) f → IsSortedState (with_assertion s fs f)
assertion_sorted s fs f h a c =
    let long : length (in_newest s.assertions f) ≡ length s.assertions = length_put false s.assertions f in
    let some = h.some in
    record {
      some = omega (arith, long, some);
      declared_sorts = h.declared_sorts ∙ sym long;
      sorts = h.sorts ∙ sym long;
      symbols = h.symbols ∙ sym long;
      functions = length_put_all false s.functions fs ∙ (h.functions ∙ sym long);
      low_sorts = h.low_sorts;
      low_symbols = h.low_symbols;
      begun = λ e. absurd (false≢true (sym e));
      fronts = λ k. assertion_front s k fs f h a c;
    }

-- levels opened and closed

pub opened_front : (s : State) (k n : ℕ) → front k (opened s n) ≡ front k s
opened_front s k n = λ i. record {
  declared_sorts = front_of_more k n s.declared_sorts i;
  sorts = front_of_more k n s.sorts i;
  symbols = front_of_more k n s.symbols i;
  functions = front_of_more k n s.functions i;
  assertions = front_of_more k n s.assertions i;
}

pub more_long : {A B : Type 0} (n : ℕ) (ls : List (List A)) (as' : List (List B)) → length ls ≡ length as' → length (more_levels n ls) ≡ length (more_levels n as')
more_long n ls as' e = length_more n ls ∙ ap (λ (c : ℕ). c + n) e ∙ sym (length_more n as')

pub fewer_long : {A B : Type 0} (n : ℕ) (ls : List (List A)) (as' : List (List B)) → length ls ≡ length as' → length (fewer_levels n ls) ≡ length (fewer_levels n as')
fewer_long n ls as' e = length_fewer n ls ∙ ap (λ (c : ℕ). c - n) e ∙ sym (length_fewer n as')

pub opened_sorted : (s : State) (n : ℕ) → IsSortedState s → IsSortedState (opened s n)
opened_sorted s n h =
    let long = length_more n s.assertions in
    let some = h.some in
    record {
      some = omega (arith, long, some);
      declared_sorts = more_long n s.declared_sorts s.assertions h.declared_sorts;
      sorts = more_long n s.sorts s.assertions h.sorts;
      symbols = more_long n s.symbols s.assertions h.symbols;
      functions = more_long n s.functions s.assertions h.functions;
      low_sorts = λ e. low_more n s.declared_sorts (some_of s (length s.declared_sorts) h h.declared_sorts) (h.low_sorts e);
      low_symbols = λ e. low_more n s.symbols (some_of s (length s.symbols) h h.symbols) (h.low_symbols e);
      begun = λ e. absurd (false≢true (sym e));
      fronts = λ k. subst IsSortedFront (sym (opened_front s k n)) (h.fronts k);
    }

closed_front : (s : State) (k n : ℕ) → IsSortedState s → front k (closed s n) ≡ front (min k (length s.assertions - n)) s
closed_front s k n h = λ i. record {
  declared_sorts = front_of_fewer k n (length s.assertions) s.declared_sorts h.declared_sorts i;
  sorts = front_of_fewer k n (length s.assertions) s.sorts h.sorts i;
  symbols = front_of_fewer k n (length s.assertions) s.symbols h.symbols i;
  functions = front_of_fewer k n (length s.assertions) s.functions h.functions i;
  assertions = front_of_fewer k n (length s.assertions) s.assertions refl i;
}

pub closed_sorted : (s : State) (n : ℕ) → IsSortedState s → n < length s.assertions → IsSortedState (closed s n)
closed_sorted s n h l =
    let long = length_fewer n s.assertions in
    record {
      some = omega (arith, long, l);
      declared_sorts = fewer_long n s.declared_sorts s.assertions h.declared_sorts;
      sorts = fewer_long n s.sorts s.assertions h.sorts;
      symbols = fewer_long n s.symbols s.assertions h.symbols;
      functions = fewer_long n s.functions s.assertions h.functions;
      low_sorts = λ e. low_fewer n s.declared_sorts (h.low_sorts e);
      low_symbols = λ e. low_fewer n s.symbols (h.low_symbols e);
      begun = λ e. absurd (false≢true (sym e));
      fronts = λ k. subst IsSortedFront (sym (closed_front s k n h)) (h.fronts (min k (length s.assertions - n)));
    }

-- options

pub globally_sorted : (s : State) (global : Bool) → s.begun ≡ false → IsSortedState s → IsSortedState (record s { global = global })
globally_sorted s global b h =
    let one = h.begun b in
    record {
      some = h.some;
      declared_sorts = h.declared_sorts;
      sorts = h.sorts;
      symbols = h.symbols;
      functions = h.functions;
      low_sorts = λ e. low_single s.declared_sorts (h.declared_sorts ∙ one);
      low_symbols = λ e. low_single s.symbols (h.symbols ∙ one);
      begun = h.begun;
      fronts = h.fronts;
    }

empty_fronts : (k : ℕ) → IsSortedFront (front k start)
empty_fronts zero = record { ranks = refl; truths = refl; sorts = tt; functions = tt; assertions = tt }
empty_fronts (suc zero) = record { ranks = refl; truths = refl; sorts = tt; functions = tt; assertions = tt }
empty_fronts (suc (suc k)) = record { ranks = refl; truths = refl; sorts = tt; functions = tt; assertions = tt }

pub start_sorted : IsSortedState start
start_sorted = record {
  some = omega arith;
  declared_sorts = refl;
  sorts = refl;
  symbols = refl;
  functions = refl;
  low_sorts = λ e. tt;
  low_symbols = λ e. tt;
  begun = λ e. refl;
  fronts = empty_fronts;
}

-- what a command names, and what it elaborates

list_is : (a b : List Ty) → ◌≡◌ {A = Result (List Ty) Refusal} (Ok a) (Ok b) → a ≡ b
list_is a b e = cc e

ty_is : (a b : Ty) → ◌≡◌ {A = Result Ty Refusal} (Ok a) (Ok b) → a ≡ b
ty_is a b e = cc e

no_ty : (r : Refusal) (t : Ty) → ◌≡◌ {A = Result Ty Refusal} (Err r) (Ok t) → ⊥
no_ty r t e = cc e

some_ty : (a b : Ty) → Some a ≡ Some b → a ≡ b
some_ty a b e = cc e

looked_up_sort : (n : ℕ) (name : List ℕ) (es : List (List ℕ × Ty)) (ty : Ty) → AreSorts n es → looked_up name es ≡ Some ty → is_sort_of n ty ≡ true
looked_up_sort n name [] ty a e = cc e
looked_up_sort n name (x ∷ es) ty a e =
    either (bytes_eq x.0 name) (Some x.1) (looked_up name es) (Some ty) e
    (λ b k. subst (λ (t : Ty). is_sort_of n t ≡ true) (some_ty x.1 ty k) a.0) (λ b k. looked_up_sort n name es ty a.1 k)

found_is : (at : Place) (o : Option Ty) (ty : Ty) → found_sort at o ≡ Ok ty → o ≡ Some ty
found_is at None ty e = absurd (no_ty (refused Reason.UnknownSort at) ty e)
found_is at (Some t) ty e = ap Some (ty_is t ty e)

sort_there : (s : State) (at : Place) (o : Option Name) (ty : Ty) → AreSorts (length (joined s.declared_sorts)) (joined s.sorts) → sort_by_name s at o ≡ Ok ty → is_sort_of (length (joined s.declared_sorts)) ty ≡ true
sort_there s at None ty a e = absurd (no_ty (refused Reason.SortArity at) ty e)
sort_there s at (Some n) ty a e =
    let count = length (joined s.declared_sorts) in
    let found = found_sort n.at (looked_up n.bytes (joined s.sorts)) in
    either (bytes_eq n.bytes (codes "Bool")) (Ok Ty.Bool) found (Ok ty) e
    (λ b k. subst (λ (t : Ty). is_sort_of count t ≡ true) (ty_is Ty.Bool ty k) refl)
    (λ b k. looked_up_sort count n.bytes (joined s.sorts) ty a (found_is n.at (looked_up n.bytes (joined s.sorts)) ty k))

sort_of_item : (text : List ℕ) (s : State) (x : Sexp) (ty : Ty) → IsSortedState s → sort_at text s x ≡ Ok ty → is_sort_of (length (joined s.declared_sorts)) ty ≡ true
sort_of_item text s x ty h e = let w = whole_sorted s h in sort_there s (place_of_item x) (name_of text x) ty w.sorts e

-- of arguments
AreArguments : State → List Ty → Type 0
AreArguments s tys = (list_all (is_sort_of (length (joined s.declared_sorts))) tys ≡ true) × (takes_no_truth tys ≡ true)

argument_passed : (text : List ℕ) (s : State) (x : Sexp) (ty : Ty) → argument_sort text s x ≡ Ok ty → (sort_at text s x ≡ Ok ty) × (not (is_bool ty) ≡ true)
argument_passed text s x ty e =
    let w = went_on (sort_at text s x) (λ (t : Ty). refused_where {A = Ty} (is_bool t) Reason.BoolArgument (place_of_item x) (Ok t)) ty e in
    either (is_bool w.0) (Err (refused Reason.BoolArgument (place_of_item x))) (Ok w.0) (Ok ty) w.2
    (λ b k. absurd (no_ty (refused Reason.BoolArgument (place_of_item x)) ty k))
    (λ b k. let same = ty_is w.0 ty k in (w.1 ∙ k, ap (λ (t : Ty). not (is_bool t)) (sym same) ∙ ap not b))

arguments_there : (text : List ℕ) (s : State) (xs : List Sexp) (tys : List Ty) → IsSortedState s → each_sort (argument_sort text s) xs ≡ Ok tys → AreArguments s tys
unfolding AreArguments
arguments_there text s [] tys h e = subst (AreArguments s) (list_is [] tys e) (refl, refl)
arguments_there text s (x ∷ xs) tys h e =
    let n = length (joined s.declared_sorts) in
    let w = went_on (argument_sort text s x) (λ (ty : Ty). and_then (each_sort (argument_sort text s) xs) (λ (more : List Ty). Ok (ty ∷ more))) tys e in
    let v = went_on (each_sort (argument_sort text s) xs) (λ (more : List Ty). Ok (w.0 ∷ more)) tys w.2 in
    let one = argument_passed text s x w.0 w.1 in
    let rest = arguments_there text s xs v.0 h v.1 in
    subst (AreArguments s) (list_is (w.0 ∷ v.0) tys v.2)
    (and_from (is_sort_of n w.0) (list_all (is_sort_of n) v.0) (sort_of_item text s x w.0 h one.0) rest.0, and_from (not (is_bool w.0)) (takes_no_truth v.0) one.1 rest.1)

-- the context of a term
sort_entries : (n m : ℕ) (es : List (List ℕ × Ty)) → n ≤ m → AreSorts n es → AllByRecursion (λ (d : Sort). is_sort_of m d.ty ≡ true) (map sort_entry es)
sort_entries n m [] l a = tt
sort_entries n m (e ∷ es) l a = (sort_more n m e.1 l a.0, sort_entries n m es l a.1)

context_sorted : (text : List ℕ) (s : State) (at : Place) (own : Option (List ℕ)) (naming : Bool) (names : List (List ℕ)) (types : List Ty) (big : Sig) → IsSortedState s → Includes big (signature s) → IsSortedContext big (context_at text s at own naming names types)
context_sorted text s at own naming names types big h i =
    let w = whole_sorted s h in
    record {
      sorts = sort_entries (length (joined s.declared_sorts)) big.sorts (joined s.sorts) i.sorts w.sorts;
      functions = all_mapped (IsLastingFunction (signature s)) (IsSortedFunction big) (joined s.functions) (λ f p. p big i) w.functions;
    }

-- parameters as bound names
some_bound : (a b : Bound) → Some a ≡ Some b → a ≡ b
some_bound a b e = cc e

parameter_by : (known : Known) (sig : Sig) (place : ℕ) (names : List (List ℕ)) (types : List Ty) (i : ℕ) (b : Bound) → ((j : ℕ) (ty : Ty) → slice_get types j ≡ Some ty → known (place + j) ≡ Some ty) → slice_get (bound_to_terms names (parameters_from place types)) i ≡ Some b → IsSortedTerm known sig b.term
parameter_by known sig place [] types i b k e = cc e
parameter_by known sig place (n ∷ names) [] i b k e = cc e
parameter_by known sig place (n ∷ names) (ty ∷ types) zero b k e =
    let same : place + 0 ≡ place = omega arith in
    subst (λ (d : Bound). IsSortedTerm known sig d.term) (some_bound (record { name = n; term = record { ty = ty; meaning = named place (is_bool ty) } }) b e)
    (name_sorted known sig place ty (ap known (sym same) ∙ k 0 ty refl))
parameter_by known sig place (n ∷ names) (ty ∷ types) (suc i) b k e =
    parameter_by known sig (place + 1) names types i b (λ j t q. let same : (place + 1) + j ≡ place + suc j = omega arith in ap known same ∙ k (suc j) t q) e

parameters_bound : (sig : Sig) (names : List (List ℕ)) (types : List Ty) → AreSortedFrom (parameters types) sig 0 (bound_to_terms names (parameters_from 0 types))
parameters_bound sig names types i b l e = parameter_by (parameters types) sig 0 names types i b (λ j t q. let same : 0 + j ≡ j = omega arith in ap (slice_get types) same ∙ q) e

-- what elaborates in it
read_under : (text : List ℕ) (s : State) (at : Place) (own : Option (List ℕ)) (naming : Bool) (names : List (List ℕ)) (types : List Ty) (x : Sexp) (r : Read) (big : Sig) → IsSortedState s → elaborated (context_at text s at own naming names types) x ≡ Ok r → Includes big (signature s)
    → IsSortedRead big (context_at text s at own naming names types) r
read_under text s at own naming names types x r big h e i = elaborated_sorted big (context_at text s at own naming names types) x r (context_sorted text s at own naming names types big h i) e

term_under : (text : List ℕ) (s : State) (at : Place) (own : Option (List ℕ)) (naming : Bool) (names : List (List ℕ)) (types : List Ty) (x : Sexp) (r : Read) (big : Sig) → IsSortedState s → elaborated (context_at text s at own naming names types) x ≡ Ok r → Includes big (signature s)
    → IsSortedTerm (parameters types) big r.term
term_under text s at own naming names types x r big h e i =
    let read = read_under text s at own naming names types x r big h e i in
    read.term (parameters types) (λ place ty k. slice_get_within types place ty k) (λ j b l q. parameters_bound big names types j b (omega arith) q)

-- the names that were given in a term, by their terms

given_one : (sig : Sig) (n : Named) → ((big : Sig) → Includes big sig → IsSortedTerm nothing_known big n.term) → IsLastingFunction sig (function_by n)
given_one sig n h big i = wider_sorted nothing_known (parameters []) big n.term.ty n.term.meaning (λ place t k. cc k) (h big i)

given_last : (sig : Sig) (ns : List Named) → ((big : Sig) → Includes big sig → AreAnywhere big ns) → AllByRecursion (IsLastingFunction sig) (map function_by ns)
given_last sig [] h = tt
given_last sig (n ∷ ns) h = (given_one sig n (λ big i. (h big i).0), given_last sig ns (λ big i. (h big i).1))

names_last : (text : List ℕ) (s : State) (at : Place) (own : Option (List ℕ)) (naming : Bool) (names : List (List ℕ)) (types : List Ty) (x : Sexp) (r : Read) → IsSortedState s → elaborated (context_at text s at own naming names types) x ≡ Ok r → AllByRecursion (IsLastingFunction (signature s)) (given_in r)
names_last text s at own naming names types x r h e =
    given_last (signature s) r.named (λ big i. let read = read_under text s at own naming names types x r big h e i in read.named)

-- commands

open_by : (wrong : Bool) (reason : Reason) (at : Place) (s t u : State) → refused_where wrong reason at (Ok s) ≡ Ok t → IsSortedState s → IsSortedState t
open_by wrong reason at s t u e h = subst IsSortedState (state_is s t (passed wrong reason at (Ok s) t e).1) h

declare_sort_stays : (s t : State) (n : Name) (arity : Numeral) → IsSortedState s → declare_sort s n arity ≡ Ok t → IsSortedState t
declare_sort_stays s t n arity h e =
    let new : Next = refused_where (is_sort_taken s n.bytes) Reason.Redeclared n.at (Ok (with_declared_sort s n.bytes)) in
    let p = passed (not (arity.value == 0)) Reason.SortArity arity.at new t e in
    open_by (is_sort_taken s n.bytes) Reason.Redeclared n.at (with_declared_sort s n.bytes) t s p.1 (declared_sort_sorted s n.bytes h)

define_sort_stays : (text : List ℕ) (s t : State) (n : Name) (params x : Sexp) → IsSortedState s → define_sort text s n params x ≡ Ok t → IsSortedState t
define_sort_stays text s t n params x h e =
    let sort : Next = and_then (sort_at text s x) (λ (ty : Ty). Ok (with_sort s n.bytes ty)) in
    let new : Next = refused_where (is_sort_taken s n.bytes) Reason.Redeclared n.at sort in
    let p = passed (has_members (members_of params)) Reason.SortArity (place_of_item params) new t e in
    let q = passed (is_sort_taken s n.bytes) Reason.Redeclared n.at sort t p.1 in
    let w = went_on (sort_at text s x) (λ (ty : Ty). Ok (with_sort s n.bytes ty)) t q.1 in
    subst IsSortedState (state_is (with_sort s n.bytes w.0) t w.2) (defined_sort_sorted s n.bytes w.0 h (sort_of_item text s x w.0 h w.1))

declare_function_stays : (text : List ℕ) (s t : State) (n : Name) (args : List Sexp) (x : Sexp) → IsSortedState s → declare_function text s n args x ≡ Ok t → IsSortedState t
unfolding AreArguments
declare_function_stays text s t n args x h e =
    let result : List Ty → Next = λ tys. and_then (sort_at text s x) (λ (ty : Ty). Ok (with_symbol s n.bytes tys ty)) in
    let all : Next = and_then (each_sort (argument_sort text s) args) result in
    let p = passed (is_function_taken s n.bytes) Reason.Redeclared n.at all t e in
    let w = went_on (each_sort (argument_sort text s) args) result t p.1 in
    let v = went_on (sort_at text s x) (λ (ty : Ty). Ok (with_symbol s n.bytes w.0 ty)) t w.2 in
    let a = arguments_there text s args w.0 h w.1 in
    let count = length (joined s.declared_sorts) in
    subst IsSortedState (state_is (with_symbol s n.bytes w.0 v.0) t v.2)
    (symbol_sorted s n.bytes w.0 v.0 h (and_from (list_all (is_sort_of count) w.0) (is_sort_of count v.0) a.0 (sort_of_item text s x v.0 h v.1)) a.1)

define_function_stays : (text : List ℕ) (s t : State) (at : Place) (n : Name) (params : List (Name × Sexp)) (x body : Sexp) → IsSortedState s → define_function text s at n params x body ≡ Ok t → IsSortedState t
define_function_stays text s t at n params x body h e =
    let c : List Ty → Context = λ tys. context_at text s at (Some n.bytes) true (names_of params) tys in
    let result : List Ty → Ty → Next = λ tys ty. and_then (elaborated (c tys) body) (defined s n tys ty body) in
    let apart : List Ty → Next = λ tys. and_then (sort_at text s x) (result tys) in
    let listed : List Ty → Next = λ tys. unless_repeated (repeated [] params) (apart tys) in
    let p = passed (is_function_taken s n.bytes) Reason.Redeclared n.at (and_then (each_sort (sort_at text s) (items_in params)) listed) t e in
    let w = went_on (each_sort (sort_at text s) (items_in params)) listed t p.1 in
    let v = went_on (sort_at text s x) (result w.0) t (not_repeated (repeated [] params) (apart w.0) t w.2) in
    let u = went_on (elaborated (c w.0) body) (defined s n w.0 v.0 body) t v.2 in
    let fs : List Function = given_in u.0 ++ definition n.bytes w.0 u.0.term ∷ [] in
    let q = passed (not (same_type u.0.term.ty v.0)) Reason.SortMismatch (place_of_item body) (Ok (with_definitions s fs)) t u.2 in
    subst IsSortedState (state_is (with_definitions s fs) t q.1)
    (definitions_sorted s fs h
    (all_both (IsLastingFunction (signature s)) (given_in u.0) (definition n.bytes w.0 u.0.term ∷ []) (names_last text s at (Some n.bytes) true (names_of params) w.0 body u.0 h u.1)
    (λ big i. term_under text s at (Some n.bytes) true (names_of params) w.0 body u.0 big h u.1 i, tt)))

truth_type : (ty : Ty) → not (is_bool ty) ≡ false → ty ≡ Ty.Bool
truth_type Ty.Bool e = refl
truth_type (Ty.Of s) e = cc e

assert_stays : (text : List ℕ) (s t : State) (at : Place) (x : Sexp) → IsSortedState s → assert_term text s at x ≡ Ok t → IsSortedState t
assert_stays text s t at x h e =
    let w = went_on (elaborated (context_at text s at None true [] []) x) (asserted s at x) t e in
    let next : Next = Ok (with_assertion s (given_in w.0) (formula_of w.0.term)) in
    let large = is_large (signature s) (formula_of w.0.term) in
    let p = passed (not (is_bool w.0.term.ty)) Reason.SortMismatch (place_of_item x) (refused_where large Reason.TooLarge at next) t w.2 in
    let q = passed large Reason.TooLarge at next t p.1 in
    let truth = truth_type w.0.term.ty p.0 in
    subst IsSortedState (state_is (with_assertion s (given_in w.0) (formula_of w.0.term)) t q.1)
    (assertion_sorted s (given_in w.0) (formula_of w.0.term) h (names_last text s at None true [] [] x w.0 h w.1)
    (λ big i.
    let m : IsSortedMeaning (parameters []) big Ty.Bool w.0.term.meaning = subst (λ (ty : Ty). IsSortedMeaning (parameters []) big ty w.0.term.meaning) truth (term_under text s at None true [] [] x w.0 big h w.1 i) in
    m [] no_names (λ place ty more k. cc k)))

push_stays : (s t : State) (at : Place) (count : ℕ) → IsSortedState s → push s at count ≡ Ok t → IsSortedState t
push_stays s t at count h e = open_by (nat_lt 65537 (level_count s + count)) Reason.TooLarge at (opened s count) t s e (opened_sorted s count h)

pop_stays : (s t : State) (at : Place) (count : ℕ) → IsSortedState s → pop s at count ≡ Ok t → IsSortedState t
pop_stays s t at count h e =
    let p = passed (nat_le (level_count s) count) Reason.PopTooMany at (Ok (closed s count)) t e in
    let l = leb-false (level_count s) count p.0 in
    subst IsSortedState (state_is (closed s count) t p.1) (closed_sorted s count h (omega (arith, l)))

option_by : (b global : Bool) (s t : State) → IsSortedState s → (b ≡ true → s.begun ≡ false) → ◌≡◌ {A = Next} (Ok (cond b (record s { global = global }) s)) (Ok t) → IsSortedState t
option_by true global s t h k e = subst IsSortedState (state_is (record s { global = global }) t e) (globally_sorted s global (k refl) h)
option_by false global s t h k e = subst IsSortedState (state_is s t e) h

not_begun : (b : Bool) → not b ≡ true → b ≡ false
not_begun true e = cc e
not_begun false e = refl

option_stays : (text : List ℕ) (s t : State) (keyword : Name) (item : Sexp) → IsSortedState s → ◌≡◌ {A = Next} (Ok (set_option text s keyword item)) (Ok t) → IsSortedState t
option_stays text s t keyword item h e =
    let is = bytes_eq keyword.bytes (codes ":global-declarations") in
    option_by (is && not s.begun) (is_true_name (name_of text item)) s t h (λ b. not_begun s.begun (and_parts is (not s.begun) b).1) e

unchanged : (s t : State) → IsSortedState s → ◌≡◌ {A = Next} (Ok s) (Ok t) → IsSortedState t
unchanged s t h e = subst IsSortedState (state_is s t e) h

pub steps_stay : (text : List ℕ) (s t : State) (command : Shown) → IsSortedState s → step_of text s command ≡ Ok t → IsSortedState t
steps_stay text s t (Shown.SetLogic at name) h e = open_by (not (is_logic name.bytes)) Reason.LogicRefused name.at s t s e h
steps_stay text s t (Shown.SetOption at keyword item) h e = option_stays text s t keyword item h e
steps_stay text s t (Shown.SetInfo at keyword item) h e = unchanged s t h e
steps_stay text s t (Shown.GetInfo at keyword) h e = unchanged s t h e
steps_stay text s t (Shown.DeclareSort at name arity) h e = declare_sort_stays s t name arity h e
steps_stay text s t (Shown.DefineSort at name params sort) h e = define_sort_stays text s t name params sort h e
steps_stay text s t (Shown.DeclareConst at name sort) h e = declare_function_stays text s t name [] sort h e
steps_stay text s t (Shown.DeclareFun at name args sort) h e = declare_function_stays text s t name args sort h e
steps_stay text s t (Shown.DefineFun at name params sort body) h e = define_function_stays text s t at name params sort body h e
steps_stay text s t (Shown.Assert at term) h e = assert_stays text s t at term h e
steps_stay text s t (Shown.Push at levels) h e = push_stays s t at (count_of levels) h e
steps_stay text s t (Shown.Pop at levels) h e = pop_stays s t at (count_of levels) h e
steps_stay text s t (Shown.CheckSat at) h e = unchanged s t h e
steps_stay text s t (Shown.GetModel at) h e = unchanged s t h e
steps_stay text s t (Shown.Exit at) h e = unchanged s t h e
steps_stay text s t (Shown.GetValue at terms) h e = unchanged s t h e
steps_stay text s t (Shown.Echo at literal) h e = unchanged s t h e

-- what is in force

by_index : {A : Type 0} (P : A → Type 0) (xs : List A) → AllByRecursion P xs → All P xs
by_index P [] a k d l = absurd (omega (arith, l))
by_index P (x ∷ xs) a zero d l = a.0
by_index P (x ∷ xs) a (suc k) d l = by_index P xs a.1 k d (omega (arith, l))

are_closed : (sig : Sig) (fs : List Formula) → AllByRecursion (IsLastingFormula sig) fs → All (λ f. is_closed f sig ≡ true) fs
are_closed sig fs a = by_index (λ (f : Formula). is_closed f sig ≡ true) fs (all_mapped (IsLastingFormula sig) (λ (f : Formula). is_closed f sig ≡ true) fs (λ f p. p sig (includes_self sig)) a)

pub problem_sorted : (s : State) → IsSortedState s → IsSortedProblem s
problem_sorted s h =
    let w = whole_sorted s h in
    record { closed = are_closed (signature s) (joined s.assertions) w.assertions; ranks = w.ranks; truths = w.truths }
