-- Meanings that are made of well sorted ones are well sorted.
use Rattle.std.proofs.Common.{◌≡◌, ℕ, zero, suc, ◌+◌, ◌-◌, Bool, true, false, cond, List, [], ◌∷◌, ◌++◌, map, length, Option, Some, None, ap, refl, sym, subst, ◌∙◌, arith, append_assoc}
use Rattle.std.specs.Prelude.{get_or, nat_lt, slice_get}
use Rattle.std.specs.List.{AllByRecursion, list_all}
use Rattle.std.proofs.lemmas.Bool.{and_from}
use Rattle.std.proofs.lemmas.List.{append-nil, length-append}
use Rattle.fm_base.specs.Truth.{is_bool, is_well_sorted, sort_of}
use Rattle.fm_base.specs.declared.ids.SortId.{SortId}
use Rattle.fm_base.specs.declared.signature.Sig.{Sig}
use Rattle.fm_base.specs.declared.signature.Ty.{Ty}
use Rattle.fm_base.specs.declared.formula.Fterm.{Fterm}
use Rattle.fm_arena.specs.Meanings.{Meaning, Names, Term, applied, given, inside, made, meanings_at, named, nowhere, quantified}
use Rattle.fm_arena.specs.Trees.{built, formula_in}
use Rattle.fm_arena.specs.declared.node.Op.{Op}
use Rattle.fm_arena.specs.declared.node.Tree.{Tree}
use Rattle.fm_apply.specs.Applied.{all_of, meanings}
use Rattle.fm_elab.specs.Sorted.{AreSortedNames, IsSortedMeaning, IsSortedTerm, IsSortedTree, Known, parameters}
use Rattle.fm_elab.proofs.SortedTrees.{AreAllSorted, AreSortedTrees, sort_from, sort_of_var, sorted_of_quant}

-- names

pub names_more : (known : Known) (sig : Sig) (scope more : List SortId) (names : Names) → AreSortedNames known sig scope names → AreSortedNames known sig (scope ++ more) names
names_more known sig scope more names h place ty further k =
    subst (λ (s : List SortId). IsSortedTree sig ty s (names place (length s))) (sym (append_assoc scope more further)) (h place ty (more ++ further) k)

name_here : (known : Known) (sig : Sig) (scope : List SortId) (names : Names) (place : ℕ) (ty : Ty) → AreSortedNames known sig scope names → known place ≡ Some ty → IsSortedTree sig ty scope (names place (length scope))
name_here known sig scope names place ty h k = subst (λ (s : List SortId). IsSortedTree sig ty s (names place (length s))) (append-nil scope) (h place ty [] k)

pub name_sorted : (known : Known) (sig : Sig) (place : ℕ) (ty : Ty) → known place ≡ Some ty → IsSortedMeaning known sig ty (named place (is_bool ty))
name_sorted known sig place Ty.Bool k scope names h = name_here known sig scope names place Ty.Bool h k
name_sorted known sig place (Ty.Of s) k scope names h = name_here known sig scope names place (Ty.Of s) h k

-- where more is known
pub wider_sorted : (known wider : Known) (sig : Sig) (ty : Ty) (m : Meaning) → ((place : ℕ) (t : Ty) → known place ≡ Some t → wider place ≡ Some t) → IsSortedMeaning known sig ty m → IsSortedMeaning wider sig ty m
wider_sorted known wider sig ty m w h scope names n = h scope names (λ place t more k. n place t more (w place t k))

-- lists of terms

abbrev pub types_of : List Term → List Ty
types_of ts = map (λ (t : Term). t.ty) ts

abbrev pub AllSorted : Known → Sig → List Term → Type 0
AllSorted known sig ts = AllByRecursion (IsSortedTerm known sig) ts

trees_sorted : (known : Known) (sig : Sig) (scope : List SortId) (names : Names) (ts : List Term) → AllSorted known sig ts → AreSortedNames known sig scope names → AreSortedTrees sig scope (meanings_at (meanings ts) names (length scope)) (types_of ts)
trees_sorted known sig scope names [] a h = tt
trees_sorted known sig scope names (t ∷ ts) a h = (a.0 scope names h, trees_sorted known sig scope names ts a.1 h)

pub all_one : (sig : Sig) (scope : List SortId) (ty : Ty) (ts : List Term) (trees : List Tree) → AreSortedTrees sig scope trees (all_of ty ts) → AreAllSorted sig scope ty trees
all_one sig scope ty [] [] h = tt
all_one sig scope ty [] (tree ∷ trees) h = absurd h
all_one sig scope ty (t ∷ ts) [] h = absurd h
all_one sig scope ty (t ∷ ts) (tree ∷ trees) h = (h.0, all_one sig scope ty ts trees h.1)

-- an operator, given what it makes of trees
abbrev pub Builds : Sig → List Ty → Op → Ty → Type 0
Builds sig tys op ty = (scope : List SortId) (trees : List Tree) → AreSortedTrees sig scope trees tys → IsSortedTree sig ty scope (built op trees)

pub made_sorted : (known : Known) (sig : Sig) (op : Op) (ty : Ty) (ts : List Term) (tys : List Ty) → AllSorted known sig ts → types_of ts ≡ tys → Builds sig tys op ty → IsSortedMeaning known sig ty (made op (meanings ts))
made_sorted known sig op ty ts tys a e b scope names n =
    let trees = meanings_at (meanings ts) names (length scope) in
    b scope trees (subst (AreSortedTrees sig scope trees) e (trees_sorted known sig scope names ts a n))

-- a definition under its arguments

some_is : {A : Type 0} (x y : A) → Some x ≡ Some y → x ≡ y
some_is x y e = cc e

argument_sorted : (known : Known) (sig : Sig) (scope more : List SortId) (names : Names) (ts : List Term) (place : ℕ) (ty : Ty) → AllSorted known sig ts → AreSortedNames known sig scope names → slice_get (types_of ts) place ≡ Some ty
    → IsSortedTree sig ty (scope ++ more) (get_or (map (λ (a : Meaning). a names) (meanings ts)) place nowhere (length (scope ++ more)))
argument_sorted known sig scope more names [] place ty a n k = cc k
argument_sorted known sig scope more names (t ∷ ts) zero ty a n k =
    subst (λ (u : Ty). IsSortedTree sig u (scope ++ more) (t.meaning names (length (scope ++ more)))) (some_is t.ty ty k) (a.0 (scope ++ more) names (names_more known sig scope more names n))
argument_sorted known sig scope more names (t ∷ ts) (suc place) ty a n k = argument_sorted known sig scope more names ts place ty a.1 n k

pub applied_sorted : (known : Known) (sig : Sig) (m : Meaning) (ty : Ty) (ts : List Term) (tys : List Ty) → AllSorted known sig ts → types_of ts ≡ tys → IsSortedMeaning (parameters tys) sig ty m → IsSortedMeaning known sig ty (applied m (meanings ts))
applied_sorted known sig m ty ts tys a e h scope names n =
    h scope (given (meanings ts) names)
    (λ place t more k. argument_sorted known sig scope more names ts place t a n (ap (λ (us : List Ty). slice_get us place) e ∙ k))

-- quantifiers

abbrev pub of_variable : Option SortId → Option Ty
of_variable None = None
of_variable (Some s) = Some (Ty.Of s)

-- the variables of a block follow the names around it
abbrev pub with_variables : ℕ → List SortId → Known → Known
with_variables base vars known place = cond (nat_lt place base) (known place) (of_variable (slice_get vars (place - base)))

variable_is : (o : Option SortId) (ty : Ty) → of_variable o ≡ Some ty → (s : SortId) × (o ≡ Some s) × (ty ≡ Ty.Of s)
variable_is None ty k = cc k
variable_is (Some s) ty k = (s, refl, sym (some_is (Ty.Of s) ty k))

get_past : (xs ys : List SortId) (i j : ℕ) (s : SortId) → i ≡ length xs + j → slice_get ys j ≡ Some s → slice_get (xs ++ ys) i ≡ Some s
get_past [] ys i j s l e = let same : i ≡ j = omega (arith, l) in ap (slice_get ys) same ∙ e
get_past (x ∷ xs) ys zero j s l e = absurd (omega (arith, l))
get_past (x ∷ xs) ys (suc i) j s l e = get_past xs ys i j s (omega (arith, l)) e

get_before : (xs ys : List SortId) (j : ℕ) (s : SortId) → slice_get xs j ≡ Some s → slice_get (xs ++ ys) j ≡ Some s
get_before [] ys j s e = cc e
get_before (x ∷ xs) ys zero s e = e
get_before (x ∷ xs) ys (suc j) s e = get_before xs ys j s e

-- the variable of a place in a block
variable_there : (sig : Sig) (scope vars more : List SortId) (j : ℕ) (ty : Ty) → of_variable (slice_get vars j) ≡ Some ty → IsSortedTree sig ty ((scope ++ vars) ++ more) (Tree.Thing (Fterm.Var (length scope + j)))
variable_there sig scope vars more j ty k =
    let v = variable_is (slice_get vars j) ty k in
    let there : slice_get ((scope ++ vars) ++ more) (length scope + j) ≡ Some v.0 = get_before (scope ++ vars) more (length scope + j) v.0 (get_past scope vars (length scope + j) j v.0 refl v.1) in
    subst (λ (u : Ty). IsSortedTree sig u ((scope ++ vars) ++ more) (Tree.Thing (Fterm.Var (length scope + j)))) (sym v.2)
    (sort_from (sort_of (Fterm.Var (length scope + j)) sig ((scope ++ vars) ++ more)) v.0 (sort_of_var (length scope + j) sig ((scope ++ vars) ++ more) ∙ there))

inside_at : (known : Known) (sig : Sig) (scope vars more : List SortId) (names : Names) (base place : ℕ) (ty : Ty) (b : Bool) → AreSortedNames known sig scope names → cond b (known place) (of_variable (slice_get vars (place - base))) ≡ Some ty
    → IsSortedTree sig ty ((scope ++ vars) ++ more) (cond b (names place) (λ (d : ℕ). Tree.Thing (Fterm.Var (length scope + (place - base)))) (length ((scope ++ vars) ++ more)))
inside_at known sig scope vars more names base place ty true n k = names_more known sig scope vars names n place ty more k
inside_at known sig scope vars more names base place ty false n k = variable_there sig scope vars more (place - base) ty k

pub quantified_sorted : (known : Known) (sig : Sig) (all : Bool) (vars : List SortId) (base : ℕ) (body : Meaning) → list_all (λ (s : SortId). nat_lt s.0 sig.sorts) vars ≡ true → IsSortedMeaning (with_variables base vars known) sig Ty.Bool body
    → IsSortedMeaning known sig Ty.Bool (quantified all vars base body)
quantified_sorted known sig all vars base body v h scope names n =
    let inner : Names = inside base (length scope) names in
    let there : AreSortedNames (with_variables base vars known) sig (scope ++ vars) inner = λ place ty more k. inside_at known sig scope vars more names base place ty (nat_lt place base) n k in
    let below : is_well_sorted (formula_in (body inner (length scope + length vars))) sig (scope ++ vars) ≡ true =
    subst (λ (d : ℕ). is_well_sorted (formula_in (body inner d)) sig (scope ++ vars) ≡ true) (length-append scope vars) (h (scope ++ vars) inner there) in
    sorted_of_quant all vars (formula_in (body inner (length scope + length vars))) sig scope
    ∙ and_from (list_all (λ (s : SortId). nat_lt s.0 sig.sorts) vars) (is_well_sorted (formula_in (body inner (length scope + length vars))) sig (scope ++ vars)) v below
