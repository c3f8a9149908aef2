-- Every command leaves the names of an assertion stack distinct within their kind.
use Rattle.std.proofs.Common.{◌≡◌, ℕ, zero, suc, ◌+◌, ◌-◌, ◌<◌, ◌==◌, Bool, true, false, not, cond, List, [], ◌∷◌, ◌++◌, map, length, take, Option, Some, None, ap, refl, sym, subst, ◌∙◌, arith, append_assoc}
use Rattle.std.specs.Prelude.{Ok, ◌&&◌, codes, is_some, min, nat_le, nat_lt}
use Rattle.std.specs.List.{AllByRecursion, IsDistinct}
use Rattle.std.specs.Str.{bytes_eq}
use Rattle.std.proofs.lemmas.Bool.{false≢true, leb-false}
use Rattle.std.proofs.lemmas.Map.Keys.{IsDistinct-cons, IsDistinct-head, IsDistinct-tail}
use Rattle.std.proofs.lemmas.List.{map-append}
use Rattle.fm_base.specs.Truth.{is_bool}
use Rattle.fm_base.specs.declared.formula.Formula.{Formula}
use Rattle.fm_base.specs.declared.refusal.Place.{Place}
use Rattle.fm_base.specs.declared.refusal.Reason.{Reason}
use Rattle.fm_base.specs.declared.signature.Rank.{Rank}
use Rattle.fm_base.specs.declared.signature.Ty.{Ty}
use Rattle.fm_sexp.specs.declared.items.Sexp.{Sexp}
use Rattle.fm_script.specs.Commands.{members_of, name_of, place_of_item}
use Rattle.fm_script.specs.Shown.{Name, Numeral, Shown}
use Rattle.fm_levels.specs.Levels.{in_newest, joined, put}
use Rattle.fm_levels.specs.Tables.{AreDistinct, has, looked_up}
use Rattle.fm_levels.proofs.Tabling.{bytes_flip}
use Rattle.fm_apply.specs.Applied.{Context, Function, and_then, same_type}
use Rattle.fm_terms.specs.Elaborate.{elaborated, items_in, repeated, unless_repeated}
use Rattle.fm_terms.specs.Scoped.{names_of}
use Rattle.fm_elab.specs.Fresh.{AreNew}
use Rattle.fm_elab.specs.NameLaw.{AreNamesDistinct, IsNamedState, IsNew, functions_named, sorts_named, symbols_named}
use Rattle.fm_elab.specs.SortLaw.{front}
use Rattle.fm_elab.specs.Sizes.{is_large}
use Rattle.fm_elab.specs.Stacks.{State, closed, is_barred, is_function_taken, is_named, is_sort_taken, level_count, next_function, next_sort, opened, put_all, signature, sort_names, start, symbol_names, with_assertion, with_declared_sort, with_definitions, with_sort, with_symbol}
use Rattle.fm_elab.specs.Steps.{Next, argument_sort, assert_term, asserted, context_at, count_of, declare_function, declare_sort, define_function, define_sort, defined, definition, each_sort, formula_of, given_in, has_members, is_logic, is_true_name, pop, push, refused_where, set_option, sort_at, step_of}
use Rattle.fm_elab.proofs.FreshNames.{apart_from, defined_is_new, elaborated_fresh, given_are_new, named_last, neither}
use Rattle.fm_elab.proofs.Placing.{length_fewer, length_more, length_put, length_put_all}
use Rattle.fm_elab.proofs.SortedCore.{went_on}
use Rattle.fm_elab.proofs.SortedLevels.{all_behind, all_in_both as all_both, all_in_front, all_with, all_put, front_of_all, front_of_fewer, put_kept, put_reached, reaches, some_front}
use Rattle.fm_elab.proofs.SortedStates.{fewer_long, more_long, not_repeated, opened_front, passed, state_is}

-- a name between others

flipped_all : (n : List ℕ) (ys : List (List ℕ)) → IsNew n ys → AllByRecursion (λ (y : List ℕ). bytes_eq n y ≡ false) ys
flipped_all n [] a = tt
flipped_all n (y ∷ ys) a = (bytes_flip n y ∙ a.0, flipped_all n ys a.1)

all_between : (x : List ℕ) (xs ys : List (List ℕ)) (n : List ℕ) → AllByRecursion (λ (y : List ℕ). bytes_eq x y ≡ false) (xs ++ ys) → bytes_eq x n ≡ false → AllByRecursion (λ (y : List ℕ). bytes_eq x y ≡ false) (xs ++ n ∷ ys)
all_between x [] ys n a e = (e, a)
all_between x (y ∷ xs) ys n a e = (a.0, all_between x xs ys n a.1 e)

distinct_between : (xs ys : List (List ℕ)) (n : List ℕ) → AreDistinct (xs ++ ys) → IsNew n (xs ++ ys) → AreDistinct (xs ++ n ∷ ys)
distinct_between [] ys n d a = IsDistinct-cons bytes_eq n ys (flipped_all n ys a) d
distinct_between (x ∷ xs) ys n d a =
    IsDistinct-cons bytes_eq x (xs ++ n ∷ ys) (all_between x xs ys n (IsDistinct-head bytes_eq x (xs ++ ys) d) a.0)
    (distinct_between xs ys n (IsDistinct-tail bytes_eq x (xs ++ ys) d) a.1)

-- where an entry is put in

pub record IsBetween {A : Type 0} (old new : List A) (x : A) : Type 0 where
  pub before : List A
  pub behind : List A
  pub old_is : old ≡ before ++ behind
  pub new_is : new ≡ before ++ x ∷ behind

first_between : {A : Type 0} (l : List A) (ls : List (List A)) (x : A) → IsBetween (l ++ joined ls) ((l ++ x ∷ []) ++ joined ls) x
first_between l ls x = record { before = l; behind = joined ls; old_is = refl; new_is = append_assoc l (x ∷ []) (joined ls) }

longer_between : {A : Type 0} (l old new : List A) (x : A) → IsBetween old new x → IsBetween (l ++ old) (l ++ new) x
longer_between {A = A} l old new x b = record {
  before = l ++ b.before;
  behind = b.behind;
  old_is = ap (λ (m : List A). l ++ m) b.old_is ∙ sym (append_assoc l b.before b.behind);
  new_is = ap (λ (m : List A). l ++ m) b.new_is ∙ sym (append_assoc l b.before (x ∷ b.behind));
}

newest_between : {A : Type 0} (l : List A) (ls : List (List A)) (x : A) → IsBetween (joined (l ∷ ls)) (joined (in_newest (l ∷ ls) x)) x
newest_between l [] x = first_between l [] x
newest_between l (m ∷ ls) x = longer_between l (joined (m ∷ ls)) (joined (in_newest (m ∷ ls) x)) x (newest_between m ls x)

put_between : {A : Type 0} (first : Bool) (ls : List (List A)) (x : A) → 0 < length ls → IsBetween (joined ls) (joined (put first ls x)) x
put_between first [] x h = absurd (omega (arith, h))
put_between true (l ∷ ls) x h = first_between l ls x
put_between false (l ∷ ls) x h = newest_between l ls x

named_between : {A : Type 0} (named : A → List ℕ) (old new : List A) (x : A) → IsBetween old new x → AreDistinct (map named old) → IsNew (named x) (map named old) → AreDistinct (map named new)
named_between named old new x b d a =
    let is = ap (map named) b.old_is ∙ map-append named b.before b.behind in
    subst AreDistinct (sym (ap (map named) b.new_is ∙ map-append named b.before (x ∷ b.behind)))
    (distinct_between (map named b.before) (map named b.behind) (named x) (subst AreDistinct is d) (subst (IsNew (named x)) is a))

-- in a front of the levels

named_with_by : {A : Type 0} (named : A → List ℕ) (first : Bool) (k : ℕ) (ls : List (List A)) (x : A) (b : Bool) → reaches first k (length ls) ≡ b → 0 < length ls → AreDistinct (map named (joined (take k ls))) → (b ≡ true → IsNew (named x) (map named (joined (take k ls)))) → AreDistinct (map named (joined (take k (put first ls x))))
named_with_by {A = A} named first k ls x true e h d a =
    subst (λ (m : List (List A)). AreDistinct (map named (joined m))) (sym (put_reached first k ls x e))
    (named_between named (joined (take k ls)) (joined (put first (take k ls) x)) x (put_between first (take k ls) x (some_front first k ls h e)) d (a refl))
named_with_by {A = A} named first k ls x false e h d a = subst (λ (m : List (List A)). AreDistinct (map named (joined m))) (sym (put_kept first k ls x e)) d

named_with : {A : Type 0} (named : A → List ℕ) (first : Bool) (k n : ℕ) (ls : List (List A)) (x : A) → length ls ≡ n → 0 < n → AreDistinct (map named (joined (take k ls))) → (reaches first k n ≡ true → IsNew (named x) (map named (joined (take k ls)))) → AreDistinct (map named (joined (take k (put first ls x))))
named_with named first k n ls x l h d a = named_with_by named first k ls x (reaches first k (length ls)) refl (omega (arith, l, h)) d (λ e. a (ap (reaches first k) (sym l) ∙ e))

-- what holds of all levels holds of a front
front_all : {A : Type 0} (P : A → Type 0) (k : ℕ) (ls : List (List A)) → AllByRecursion P (joined ls) → AllByRecursion P (joined (take k ls))
front_all P zero ls a = tt
front_all P (suc k) [] a = tt
front_all P (suc k) (l ∷ ls) a = all_both P l (joined (take k ls)) (all_in_front P l (joined ls) a) (front_all P k ls (all_behind P l (joined ls) a))

-- names by the entries that have them
new_from : {A : Type 0} (named : A → List ℕ) (name : List ℕ) (xs : List A) → AllByRecursion (λ (x : A). bytes_eq (named x) name ≡ false) xs → IsNew name (map named xs)
new_from named name [] a = tt
new_from named name (x ∷ xs) a = (a.0, new_from named name xs a.1)

new_entries : {A : Type 0} (named : A → List ℕ) (name : List ℕ) (xs : List A) → IsNew name (map named xs) → AllByRecursion (λ (x : A). bytes_eq (named x) name ≡ false) xs
new_entries named name [] a = tt
new_entries named name (x ∷ xs) a = (a.0, new_entries named name xs a.1)

new_in_front : {A : Type 0} (named : A → List ℕ) (name : List ℕ) (k : ℕ) (ls : List (List A)) → IsNew name (map named (joined ls)) → IsNew name (map named (joined (take k ls)))
new_in_front {A = A} named name k ls a = new_from named name (joined (take k ls)) (front_all (λ (x : A). bytes_eq (named x) name ≡ false) k ls (new_entries named name (joined ls) a))

-- a name that is new where an entry was put in was new before, and isn't the entry's
pub record WasNew {A : Type 0} (named : A → List ℕ) (name : List ℕ) (old : List A) (x : A) (has : Bool) : Type 0 where
  pub old_new : IsNew name (map named old)
  pub apart : has ≡ true → bytes_eq (named x) name ≡ false

between_new : {A : Type 0} (named : A → List ℕ) (name : List ℕ) (old new : List A) (x : A) (has : Bool) → IsBetween old new x → IsNew name (map named new) → WasNew named name old x has
between_new {A = A} named name old new x has b a =
    let P : A → Type 0 = λ y. bytes_eq (named y) name ≡ false in
    let all = subst (AllByRecursion P) b.new_is (new_entries named name new a) in
    let rest = all_behind P b.before (x ∷ b.behind) all in
    record {
      old_new = new_from named name old (subst (AllByRecursion P) (sym b.old_is) (all_both P b.before b.behind (all_in_front P b.before (x ∷ b.behind) all) rest.1));
      apart = λ e. rest.0;
    }

was_new_by : {A : Type 0} (named : A → List ℕ) (name : List ℕ) (first : Bool) (k : ℕ) (ls : List (List A)) (x : A) (b : Bool) → reaches first k (length ls) ≡ b → 0 < length ls → IsNew name (map named (joined (take k (put first ls x)))) → WasNew named name (joined (take k ls)) x b
was_new_by {A = A} named name first k ls x true e h a =
    between_new named name (joined (take k ls)) (joined (put first (take k ls) x)) x true (put_between first (take k ls) x (some_front first k ls h e))
    (subst (λ (m : List (List A)). IsNew name (map named (joined m))) (put_reached first k ls x e) a)
was_new_by {A = A} named name first k ls x false e h a = record {
  old_new = subst (λ (m : List (List A)). IsNew name (map named (joined m))) (put_kept first k ls x e) a;
  apart = λ t. absurd (false≢true t);
}

-- an entry of each of two kinds under one name: what is new among the one is new among the other
pub new_with : {A B : Type 0} (named : A → List ℕ) (called : B → List ℕ) (first : Bool) (k n : ℕ) (ls : List (List A)) (ms : List (List B)) (x : A) (y : B) → named x ≡ called y → length ls ≡ n → length ms ≡ n → 0 < n
    → ((name : List ℕ) → IsNew name (map named (joined (take k ls))) → IsNew name (map called (joined (take k ms)))) → (name : List ℕ) → IsNew name (map named (joined (take k (put first ls x)))) → IsNew name (map called (joined (take k (put first ms y))))
new_with {B = B} named called first k n ls ms x y same l m h old name a =
    let w = was_new_by named name first k ls x (reaches first k (length ls)) refl (omega (arith, l, h)) a in
    new_from called name (joined (take k (put first ms y)))
    (all_with (λ (z : B). bytes_eq (called z) name ≡ false) first k n ms y m (new_entries called name (joined (take k ms)) (old name w.old_new))
    (λ e. ap (λ (c : List ℕ). bytes_eq c name) (sym same) ∙ w.apart (ap (reaches first k) l ∙ e)))

-- an entry of the one kind alone
pub new_above : {A B : Type 0} (named : A → List ℕ) (called : B → List ℕ) (first : Bool) (k n : ℕ) (ls : List (List A)) (bs : List B) (x : A) → length ls ≡ n → 0 < n
    → ((name : List ℕ) → IsNew name (map named (joined (take k ls))) → IsNew name (map called bs)) → (name : List ℕ) → IsNew name (map named (joined (take k (put first ls x)))) → IsNew name (map called bs)
new_above named called first k n ls bs x l h old name a =
    let w = was_new_by named name first k ls x (reaches first k (length ls)) refl (omega (arith, l, h)) a in
    old name w.old_new

-- names that aren't taken

abbrev pub sort_name : List ℕ × Ty → List ℕ
sort_name e = e.0

abbrev pub symbol_name : List ℕ × Rank → List ℕ
symbol_name e = e.0

abbrev pub function_name : Function → List ℕ
function_name f = f.name

not_found : (b : Bool) (ty : Ty) (o : Option Ty) → is_some (cond b (Some ty) o) ≡ false → (b ≡ false) × (is_some o ≡ false)
not_found true ty o e = cc e
not_found false ty o e = (refl, e)

new_looked_up : (name : List ℕ) (es : List (List ℕ × Ty)) → has name es ≡ false → IsNew name (sorts_named es)
new_looked_up name [] e = tt
new_looked_up name (x ∷ es) e = let n = not_found (bytes_eq x.0 name) x.1 (looked_up name es) e in (n.0, new_looked_up name es n.1)

free_sort : (s : State) (name : List ℕ) → is_sort_taken s name ≡ false → IsNew name (sorts_named (joined s.sorts))
free_sort s name e = new_looked_up name (joined s.sorts) (neither (is_barred name) (has name (joined s.sorts)) e).1

new_named : (name : List ℕ) (fs : List Function) → is_named name fs ≡ false → IsNew name (functions_named fs)
new_named name fs e = new_from function_name name fs (apart_from name fs e)

free_function : (s : State) (name : List ℕ) → is_function_taken s name ≡ false → IsNew name (functions_named (joined s.functions))
free_function s name e = new_named name (joined s.functions) (neither (is_barred name) (is_named name (joined s.functions)) e).1

-- declarations

declared_names : (s : State) (k : ℕ) (name : List ℕ) → IsNamedState s → IsNew name (sorts_named (joined s.sorts)) → AreNamesDistinct (front k (with_declared_sort s name))
declared_names s k name h free =
    let old = h.fronts k in
    let n = length s.assertions in
    let e : List ℕ × Ty = (name, next_sort s) in
    let here = new_in_front sort_name name k s.sorts free in
    record {
      sorts = named_with sort_name s.global k n s.sorts e h.sorts h.some old.sorts (λ r. here);
      functions = old.functions;
      declared_sorts = named_with sort_name s.global k n s.declared_sorts e h.declared_sorts h.some old.declared_sorts (λ r. old.new_sorts name here);
      symbols = old.symbols;
      new_sorts = new_with sort_name sort_name s.global k n s.sorts s.declared_sorts e e refl h.sorts h.declared_sorts h.some old.new_sorts;
      new_symbols = old.new_symbols;
    }

declared_sort_named : (s : State) (name : List ℕ) → IsNamedState s → IsNew name (sorts_named (joined s.sorts)) → IsNamedState (with_declared_sort s name)
declared_sort_named s name h free = record {
  some = h.some;
  declared_sorts = length_put s.global s.declared_sorts (name, next_sort s) ∙ h.declared_sorts;
  sorts = length_put s.global s.sorts (name, next_sort s) ∙ h.sorts;
  symbols = h.symbols;
  functions = h.functions;
  fronts = λ k. declared_names s k name h free;
}

sort_names_kept : (s : State) (k : ℕ) (name : List ℕ) (ty : Ty) → IsNamedState s → IsNew name (sorts_named (joined s.sorts)) → AreNamesDistinct (front k (with_sort s name ty))
sort_names_kept s k name ty h free =
    let old = h.fronts k in
    let n = length s.assertions in
    let e : List ℕ × Ty = (name, ty) in
    record {
      sorts = named_with sort_name s.global k n s.sorts e h.sorts h.some old.sorts (λ r. new_in_front sort_name name k s.sorts free);
      functions = old.functions;
      declared_sorts = old.declared_sorts;
      symbols = old.symbols;
      new_sorts = new_above sort_name sort_name s.global k n s.sorts (joined (take k s.declared_sorts)) e h.sorts h.some old.new_sorts;
      new_symbols = old.new_symbols;
    }

defined_sort_named : (s : State) (name : List ℕ) (ty : Ty) → IsNamedState s → IsNew name (sorts_named (joined s.sorts)) → IsNamedState (with_sort s name ty)
defined_sort_named s name ty h free = record {
  some = h.some;
  declared_sorts = h.declared_sorts;
  sorts = length_put s.global s.sorts (name, ty) ∙ h.sorts;
  symbols = h.symbols;
  functions = h.functions;
  fronts = λ k. sort_names_kept s k name ty h free;
}

symbol_names_kept : (s : State) (k : ℕ) (name : List ℕ) (args : List Ty) (ty : Ty) → IsNamedState s → IsNew name (functions_named (joined s.functions)) → AreNamesDistinct (front k (with_symbol s name args ty))
symbol_names_kept s k name args ty h free =
    let old = h.fronts k in
    let n = length s.assertions in
    let e : List ℕ × Rank = (name, record { args = args; result = ty }) in
    let f : Function = next_function s name args ty in
    let here = new_in_front function_name name k s.functions free in
    record {
      sorts = old.sorts;
      functions = named_with function_name s.global k n s.functions f h.functions h.some old.functions (λ r. here);
      declared_sorts = old.declared_sorts;
      symbols = named_with symbol_name s.global k n s.symbols e h.symbols h.some old.symbols (λ r. old.new_symbols name here);
      new_sorts = old.new_sorts;
      new_symbols = new_with function_name symbol_name s.global k n s.functions s.symbols f e refl h.functions h.symbols h.some old.new_symbols;
    }

symbol_named : (s : State) (name : List ℕ) (args : List Ty) (ty : Ty) → IsNamedState s → IsNew name (functions_named (joined s.functions)) → IsNamedState (with_symbol s name args ty)
symbol_named s name args ty h free = record {
  some = h.some;
  declared_sorts = h.declared_sorts;
  sorts = h.sorts;
  symbols = length_put s.global s.symbols (name, record { args = args; result = ty }) ∙ h.symbols;
  functions = length_put s.global s.functions (next_function s name args ty) ∙ h.functions;
  fronts = λ k. symbol_names_kept s k name args ty h free;
}

-- definitions

-- a name that isn't among the functions is new in the levels
abbrev pub AreCovered : List Function → List (List Function) → Type 0
AreCovered gs ls = (name : List ℕ) → is_named name gs ≡ false → IsNew name (functions_named (joined ls))

covered_more : (first : Bool) (gs : List Function) (ls : List (List Function)) (f : Function) → AreCovered gs ls → AreCovered (gs ++ f ∷ []) (put first ls f)
covered_more first gs ls f c name e =
    let l = named_last name gs f e in
    new_from function_name name (joined (put first ls f)) (all_put (λ (g : Function). bytes_eq g.name name ≡ false) first ls f (new_entries function_name name (joined ls) (c name l.0)) l.1)

all_named : (first : Bool) (k n : ℕ) (ls : List (List Function)) (gs fs : List Function) → length ls ≡ n → 0 < n → AreCovered gs ls → AreNew gs fs → AreDistinct (functions_named (joined (take k ls))) → AreDistinct (functions_named (joined (take k (put_all first ls fs))))
all_named first k n ls gs [] l h c a d = d
all_named first k n ls gs (f ∷ fs) l h c a d =
    all_named first k n (put first ls f) (gs ++ f ∷ []) fs (length_put first ls f ∙ l) h (covered_more first gs ls f c) a.1
    (named_with function_name first k n ls f l h d (λ r. new_in_front function_name f.name k ls (c f.name a.0)))

all_above : (first : Bool) (k n : ℕ) (ls : List (List Function)) (fs : List Function) (bs : List (List ℕ × Rank)) → length ls ≡ n → 0 < n
    → ((name : List ℕ) → IsNew name (functions_named (joined (take k ls))) → IsNew name (symbols_named bs)) → (name : List ℕ) → IsNew name (functions_named (joined (take k (put_all first ls fs)))) → IsNew name (symbols_named bs)
all_above first k n ls [] bs l h old name a = old name a
all_above first k n ls (f ∷ fs) bs l h old name a =
    all_above first k n (put first ls f) fs bs (length_put first ls f ∙ l) h (new_above function_name symbol_name first k n ls bs f l h old) name a

definitions_named : (s : State) (fs : List Function) → IsNamedState s → AreNew (joined s.functions) fs → IsNamedState (with_definitions s fs)
definitions_named s fs h a = record {
  some = h.some;
  declared_sorts = h.declared_sorts;
  sorts = h.sorts;
  symbols = h.symbols;
  functions = length_put_all s.global s.functions fs ∙ h.functions;
  fronts = λ k. let old = h.fronts k in record {
    sorts = old.sorts;
    functions = all_named s.global k (length s.assertions) s.functions (joined s.functions) fs h.functions h.some (λ name e. new_named name (joined s.functions) e) a old.functions;
    declared_sorts = old.declared_sorts;
    symbols = old.symbols;
    new_sorts = old.new_sorts;
    new_symbols = all_above s.global k (length s.assertions) s.functions fs (joined (take k s.symbols)) h.functions h.some old.new_symbols;
  };
}

assertion_named : (s : State) (fs : List Function) (f : Formula) → IsNamedState s → AreNew (joined s.functions) fs → IsNamedState (with_assertion s fs f)
assertion_named s fs f h a =
    let long : length (in_newest s.assertions f) ≡ length s.assertions = length_put false s.assertions f in
    let some = h.some in
    record {
      some = omega (arith, long, some);
      declared_sorts = h.declared_sorts ∙ sym long;
      sorts = h.sorts ∙ sym long;
      symbols = h.symbols ∙ sym long;
      functions = length_put_all false s.functions fs ∙ (h.functions ∙ sym long);
      fronts = λ k. let old = h.fronts k in record {
        sorts = old.sorts;
        functions = all_named false k (length s.assertions) s.functions (joined s.functions) fs h.functions h.some (λ name e. new_named name (joined s.functions) e) a old.functions;
        declared_sorts = old.declared_sorts;
        symbols = old.symbols;
        new_sorts = old.new_sorts;
        new_symbols = all_above false k (length s.assertions) s.functions fs (joined (take k s.symbols)) h.functions h.some old.new_symbols;
      };
    }

-- levels opened and closed

opened_named : (s : State) (n : ℕ) → IsNamedState s → IsNamedState (opened s n)
opened_named s n h =
    let long = length_more n s.assertions in
    let some = h.some in
    record {
      some = omega (arith, long, some);
      declared_sorts = more_long n s.declared_sorts s.assertions h.declared_sorts;
      sorts = more_long n s.sorts s.assertions h.sorts;
      symbols = more_long n s.symbols s.assertions h.symbols;
      functions = more_long n s.functions s.assertions h.functions;
      fronts = λ k. subst AreNamesDistinct (sym (opened_front s k n)) (h.fronts k);
    }

closed_front : (s : State) (k n : ℕ) → IsNamedState s → front k (closed s n) ≡ front (min k (length s.assertions - n)) s
closed_front s k n h = λ i. record {
  declared_sorts = front_of_fewer k n (length s.assertions) s.declared_sorts h.declared_sorts i;
  sorts = front_of_fewer k n (length s.assertions) s.sorts h.sorts i;
  symbols = front_of_fewer k n (length s.assertions) s.symbols h.symbols i;
  functions = front_of_fewer k n (length s.assertions) s.functions h.functions i;
  assertions = front_of_fewer k n (length s.assertions) s.assertions refl i;
}

closed_named : (s : State) (n : ℕ) → IsNamedState s → n < length s.assertions → IsNamedState (closed s n)
closed_named s n h l =
    let long = length_fewer n s.assertions in
    record {
      some = omega (arith, long, l);
      declared_sorts = fewer_long n s.declared_sorts s.assertions h.declared_sorts;
      sorts = fewer_long n s.sorts s.assertions h.sorts;
      symbols = fewer_long n s.symbols s.assertions h.symbols;
      functions = fewer_long n s.functions s.assertions h.functions;
      fronts = λ k. subst AreNamesDistinct (sym (closed_front s k n h)) (h.fronts (min k (length s.assertions - n)));
    }

no_names_there : (k : ℕ) → AreNamesDistinct (front k start)
unfolding IsDistinct
no_names_there zero = record { sorts = tt; functions = tt; declared_sorts = tt; symbols = tt; new_sorts = λ name a. tt; new_symbols = λ name a. tt }
no_names_there (suc zero) = record { sorts = tt; functions = tt; declared_sorts = tt; symbols = tt; new_sorts = λ name a. tt; new_symbols = λ name a. tt }
no_names_there (suc (suc k)) = record { sorts = tt; functions = tt; declared_sorts = tt; symbols = tt; new_sorts = λ name a. tt; new_symbols = λ name a. tt }

pub start_named : IsNamedState start
start_named = record { some = omega arith; declared_sorts = refl; sorts = refl; symbols = refl; functions = refl; fronts = no_names_there }

-- commands

declare_sort_names : (s t : State) (n : Name) (arity : Numeral) → IsNamedState s → declare_sort s n arity ≡ Ok t → IsNamedState t
declare_sort_names s t n arity h e =
    let new : Next = refused_where (is_sort_taken s n.bytes) Reason.Redeclared n.at (Ok (with_declared_sort s n.bytes)) in
    let p = passed (not (arity.value == 0)) Reason.SortArity arity.at new t e in
    let q = passed (is_sort_taken s n.bytes) Reason.Redeclared n.at (Ok (with_declared_sort s n.bytes)) t p.1 in
    subst IsNamedState (state_is (with_declared_sort s n.bytes) t q.1) (declared_sort_named s n.bytes h (free_sort s n.bytes q.0))

define_sort_names : (text : List ℕ) (s t : State) (n : Name) (params x : Sexp) → IsNamedState s → define_sort text s n params x ≡ Ok t → IsNamedState t
define_sort_names text s t n params x h e =
    let sort : Next = and_then (sort_at text s x) (λ (ty : Ty). Ok (with_sort s n.bytes ty)) in
    let new : Next = refused_where (is_sort_taken s n.bytes) Reason.Redeclared n.at sort in
    let p = passed (has_members (members_of params)) Reason.SortArity (place_of_item params) new t e in
    let q = passed (is_sort_taken s n.bytes) Reason.Redeclared n.at sort t p.1 in
    let w = went_on (sort_at text s x) (λ (ty : Ty). Ok (with_sort s n.bytes ty)) t q.1 in
    subst IsNamedState (state_is (with_sort s n.bytes w.0) t w.2) (defined_sort_named s n.bytes w.0 h (free_sort s n.bytes q.0))

declare_function_names : (text : List ℕ) (s t : State) (n : Name) (args : List Sexp) (x : Sexp) → IsNamedState s → declare_function text s n args x ≡ Ok t → IsNamedState t
declare_function_names text s t n args x h e =
    let result : List Ty → Next = λ tys. and_then (sort_at text s x) (λ (ty : Ty). Ok (with_symbol s n.bytes tys ty)) in
    let all : Next = and_then (each_sort (argument_sort text s) args) result in
    let p = passed (is_function_taken s n.bytes) Reason.Redeclared n.at all t e in
    let w = went_on (each_sort (argument_sort text s) args) result t p.1 in
    let v = went_on (sort_at text s x) (λ (ty : Ty). Ok (with_symbol s n.bytes w.0 ty)) t w.2 in
    subst IsNamedState (state_is (with_symbol s n.bytes w.0 v.0) t v.2) (symbol_named s n.bytes w.0 v.0 h (free_function s n.bytes p.0))

define_function_names : (text : List ℕ) (s t : State) (at : Place) (n : Name) (params : List (Name × Sexp)) (x body : Sexp) → IsNamedState s → define_function text s at n params x body ≡ Ok t → IsNamedState t
define_function_names text s t at n params x body h e =
    let c : List Ty → Context = λ tys. context_at text s at (Some n.bytes) true (names_of params) tys in
    let result : List Ty → Ty → Next = λ tys ty. and_then (elaborated (c tys) body) (defined s n tys ty body) in
    let apart : List Ty → Next = λ tys. and_then (sort_at text s x) (result tys) in
    let listed : List Ty → Next = λ tys. unless_repeated (repeated [] params) (apart tys) in
    let p = passed (is_function_taken s n.bytes) Reason.Redeclared n.at (and_then (each_sort (sort_at text s) (items_in params)) listed) t e in
    let w = went_on (each_sort (sort_at text s) (items_in params)) listed t p.1 in
    let v = went_on (sort_at text s x) (result w.0) t (not_repeated (repeated [] params) (apart w.0) t w.2) in
    let u = went_on (elaborated (c w.0) body) (defined s n w.0 v.0 body) t v.2 in
    let fs : List Function = given_in u.0 ++ definition n.bytes w.0 u.0.term ∷ [] in
    let q = passed (not (same_type u.0.term.ty v.0)) Reason.SortMismatch (place_of_item body) (Ok (with_definitions s fs)) t u.2 in
    let free = (neither (is_barred n.bytes) (is_named n.bytes (joined s.functions)) p.0).1 in
    subst IsNamedState (state_is (with_definitions s fs) t q.1)
    (definitions_named s fs h (defined_is_new n.bytes (joined s.functions) u.0.named (definition n.bytes w.0 u.0.term) refl free (elaborated_fresh (c w.0) body u.0 u.1)))

assert_names : (text : List ℕ) (s t : State) (at : Place) (x : Sexp) → IsNamedState s → assert_term text s at x ≡ Ok t → IsNamedState t
assert_names text s t at x h e =
    let c = context_at text s at None true [] [] in
    let w = went_on (elaborated c x) (asserted s at x) t e in
    let next : Next = Ok (with_assertion s (given_in w.0) (formula_of w.0.term)) in
    let large = is_large (signature s) (formula_of w.0.term) in
    let p = passed (not (is_bool w.0.term.ty)) Reason.SortMismatch (place_of_item x) (refused_where large Reason.TooLarge at next) t w.2 in
    let q = passed large Reason.TooLarge at next t p.1 in
    subst IsNamedState (state_is (with_assertion s (given_in w.0) (formula_of w.0.term)) t q.1)
    (assertion_named s (given_in w.0) (formula_of w.0.term) h (given_are_new None (joined s.functions) w.0.named (elaborated_fresh c x w.0 w.1)))

push_names : (s t : State) (at : Place) (count : ℕ) → IsNamedState s → push s at count ≡ Ok t → IsNamedState t
push_names s t at count h e =
    let p = passed (nat_lt 65537 (level_count s + count)) Reason.TooLarge at (Ok (opened s count)) t e in
    subst IsNamedState (state_is (opened s count) t p.1) (opened_named s count h)

pop_names : (s t : State) (at : Place) (count : ℕ) → IsNamedState s → pop s at count ≡ Ok t → IsNamedState t
pop_names s t at count h e =
    let p = passed (nat_le (level_count s) count) Reason.PopTooMany at (Ok (closed s count)) t e in
    subst IsNamedState (state_is (closed s count) t p.1) (closed_named s count h (leb-false (level_count s) count p.0))

globally_named : (b global : Bool) (s : State) → IsNamedState s → IsNamedState (cond b (record s { global = global }) s)
globally_named true global s h = record { some = h.some; declared_sorts = h.declared_sorts; sorts = h.sorts; symbols = h.symbols; functions = h.functions; fronts = h.fronts }
globally_named false global s h = h

unchanged : (s t : State) → IsNamedState s → ◌≡◌ {A = Next} (Ok s) (Ok t) → IsNamedState t
unchanged s t h e = subst IsNamedState (state_is s t e) h

pub steps_keep_names : (text : List ℕ) (s t : State) (command : Shown) → IsNamedState s → step_of text s command ≡ Ok t → IsNamedState t
steps_keep_names text s t (Shown.SetLogic at name) h e = unchanged s t h (passed (not (is_logic name.bytes)) Reason.LogicRefused name.at (Ok s) t e).1
steps_keep_names text s t (Shown.SetOption at keyword item) h e =
    subst IsNamedState (state_is (set_option text s keyword item) t e) (globally_named (bytes_eq keyword.bytes (codes ":global-declarations") && not s.begun) (is_true_name (name_of text item)) s h)
steps_keep_names text s t (Shown.SetInfo at keyword item) h e = unchanged s t h e
steps_keep_names text s t (Shown.GetInfo at keyword) h e = unchanged s t h e
steps_keep_names text s t (Shown.DeclareSort at name arity) h e = declare_sort_names s t name arity h e
steps_keep_names text s t (Shown.DefineSort at name params sort) h e = define_sort_names text s t name params sort h e
steps_keep_names text s t (Shown.DeclareConst at name sort) h e = declare_function_names text s t name [] sort h e
steps_keep_names text s t (Shown.DeclareFun at name args sort) h e = declare_function_names text s t name args sort h e
steps_keep_names text s t (Shown.DefineFun at name params sort body) h e = define_function_names text s t at name params sort body h e
steps_keep_names text s t (Shown.Assert at term) h e = assert_names text s t at term h e
steps_keep_names text s t (Shown.Push at levels) h e = push_names s t at (count_of levels) h e
steps_keep_names text s t (Shown.Pop at levels) h e = pop_names s t at (count_of levels) h e
steps_keep_names text s t (Shown.CheckSat at) h e = unchanged s t h e
steps_keep_names text s t (Shown.GetModel at) h e = unchanged s t h e
steps_keep_names text s t (Shown.Exit at) h e = unchanged s t h e
steps_keep_names text s t (Shown.GetValue at terms) h e = unchanged s t h e
steps_keep_names text s t (Shown.Echo at literal) h e = unchanged s t h e

pub problem_named : (s : State) → IsNamedState s → AreDistinct (sort_names s) × AreDistinct (symbol_names s)
problem_named s h =
    let n = length s.assertions in
    let w = h.fronts n in (
      subst (λ (es : List (List ℕ × Ty)). AreDistinct (sorts_named es)) (front_of_all n s.declared_sorts h.declared_sorts) w.declared_sorts,
      subst (λ (es : List (List ℕ × Rank)). AreDistinct (symbols_named es)) (front_of_all n s.symbols h.symbols) w.symbols,
    )
