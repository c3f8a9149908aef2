-- Names in force, and what functions and the operators of Core (SMT-LIB 2.6, the Core theory) make of terms: a term with
-- its type, or one refusal.
use Rattle.std.specs.Prelude.{ℕ, zero, suc, ◌+◌, ◌==◌, Bool, true, false, ◌||◌, cond, List, [], ◌∷◌, ◌++◌, length, map, Option, Some, None, Result, Ok, Err, codes}
use Rattle.std.specs.List.{list_any}
use Rattle.std.specs.Str.{bytes_eq}
use Rattle.fm_base.specs.Truth.{is_bool}
use Rattle.fm_base.specs.declared.ids.SymId.{SymId}
use Rattle.fm_base.specs.declared.signature.Ty.{Ty}
use Rattle.fm_base.specs.declared.refusal.Place.{Place}
use Rattle.fm_base.specs.declared.refusal.Reason.{Reason}
use Rattle.fm_base.specs.declared.refusal.Refusal.{Refusal}
use Rattle.fm_sexp.specs.declared.items.Sexp.{Sexp}
use Rattle.fm_script.specs.Shown.{Name}
use Rattle.fm_script.specs.Commands.{bad_shape, place_of_item}
use Rattle.fm_arena.specs.Measures.{is_fit}
use Rattle.fm_arena.specs.Meanings.{Meaning, Term, applied, made, measure_of}
use Rattle.fm_arena.specs.declared.node.Op.{Op}
pub use Rattle.fm_levels.specs.Tables.{or_else}

abbrev pub refused : Reason → Place → Refusal
refused reason at = record { reason = reason; at = at }

-- Names in force: sorts with the types that they stand for, and functions.

pub record Sort : Type 0 where
  pub name : List ℕ
  pub ty : Ty

-- a declared symbol, or the meaning of a definition's body, whose parameters are the names from 0 on
pub data Stands : Type 0 where
  Declared : SymId → Stands
  Defined : Meaning → Stands

pub record Function : Type 0 where
  pub name : List ℕ
  pub args : List Ty
  pub result : Ty
  pub stands : Stands

-- a bound name and the term that it stands for
pub record Bound : Type 0 where
  pub name : List ℕ
  pub term : Term

-- a name that `:named` gave to a term of the command
pub record Named : Type 0 where
  pub name : List ℕ
  pub term : Term

-- where a term stands: the script's text, the sorts and functions in force, the place of the command, the name that it
-- defines, whether `:named` may give names, the bound names, newest last, and how many of these are variables or
-- parameters
pub record Context : Type 0 where
  pub text : List ℕ
  pub sorts : List Sort
  pub functions : List Function
  pub command : Place
  pub own : Option (List ℕ)
  pub naming : Bool
  pub bound : List Bound
  pub places : ℕ

abbrev pub and_then : {A B : Type 0} → Result A Refusal → (A → Result B Refusal) → Result B Refusal
and_then (Ok a) go = go a
and_then (Err r) go = Err r

-- a term, unless it is too large
abbrev pub unless_large : Place → Term → Result Term Refusal
unless_large command t = cond (is_fit (measure_of t.meaning)) (Ok t) (Err (refused Reason.TooLarge command))

abbrev pub meanings : List Term → List Meaning
meanings ts = map (λ (t : Term). t.meaning) ts

abbrev pub made_at : Context → Op → Ty → List Term → Result Term Refusal
made_at c op ty ts = unless_large c.command (record { ty = ty; meaning = made op (meanings ts) })

abbrev pub used_at : Context → Meaning → Ty → List Term → Result Term Refusal
used_at c body ty ts = unless_large c.command (record { ty = ty; meaning = applied body (meanings ts) })

-- names

abbrev pub function_by : Named → Function
function_by n = record { name = n.name; args = []; result = n.term.ty; stands = Stands.Defined n.term.meaning }

-- the functions in force where so many names were given in the command
abbrev pub in_force : Context → List Named → List Function
in_force c ns = c.functions ++ map function_by ns

abbrev pub function_named : List ℕ → List Function → Option Function
function_named name [] = None
function_named name (f ∷ fs) = cond (bytes_eq f.name name) (Some f) (function_named name fs)

abbrev pub op_of : SymId → Ty → Op
op_of f ty = cond (is_bool ty) (Op.Pred f) (Op.App f)

-- what a function makes of terms of its arguments' types
abbrev pub stands_at : Context → Stands → Ty → List Term → Result Term Refusal
stands_at c (Stands.Declared f) ty ts = made_at c (op_of f ty) ty ts
stands_at c (Stands.Defined body) ty ts = used_at c body ty ts

-- a name of Core that takes arguments
abbrev pub is_operator : List ℕ → Bool
is_operator n =
    (bytes_eq n (codes "not") || bytes_eq n (codes "and") || bytes_eq n (codes "or") || bytes_eq n (codes "ite")) || (bytes_eq n (codes "=>") || bytes_eq n (codes "xor") || bytes_eq n (codes "=") || bytes_eq n (codes "distinct"))

abbrev pub is_truth : List ℕ → Bool
is_truth n = bytes_eq n (codes "true") || bytes_eq n (codes "false")

abbrev pub is_core : List ℕ → Bool
is_core n = bytes_eq n (codes "Bool") || (is_truth n || is_operator n)

-- the first byte is @ or .
abbrev pub is_kept_for_solvers : List ℕ → Bool
is_kept_for_solvers [] = false
is_kept_for_solvers (b ∷ bs) = b == 64 || b == 46

abbrev pub is_own : Option (List ℕ) → List ℕ → Bool
is_own None name = false
is_own (Some n) name = bytes_eq n name

-- the name is taken among functions, or may not be given
abbrev pub is_taken : Context → List Named → List ℕ → Bool
is_taken c ns name = (is_core name || is_kept_for_solvers name) || (is_own c.own name || list_any (λ (f : Function). bytes_eq f.name name) (in_force c ns))

abbrev pub core_constant : Context → Name → Result Term Refusal
core_constant c n =
    cond (bytes_eq n.bytes (codes "true")) (made_at c (Op.Truth true) Ty.Bool [])
    (cond (bytes_eq n.bytes (codes "false")) (made_at c (Op.Truth false) Ty.Bool [])
    (cond (is_operator n.bytes) (Err (refused Reason.Arity n.at)) (Err (refused Reason.UnknownSymbol n.at))))

abbrev pub constant_of : Context → Name → Option Function → Result Term Refusal
constant_of c n None = core_constant c n
constant_of c n (Some f) = cond (length f.args == 0) (stands_at c f.stands f.result []) (Err (refused Reason.Arity n.at))

-- applications

abbrev pub same_type : Ty → Ty → Bool
same_type Ty.Bool Ty.Bool = true
same_type Ty.Bool (Ty.Of s) = false
same_type (Ty.Of s) Ty.Bool = false
same_type (Ty.Of s) (Ty.Of u) = s.0 == u.0

-- the place of the first argument of a wrong type
abbrev pub first_wrong : List Ty → List Term → List Sexp → Option Place
first_wrong [] ts xs = None
first_wrong (ty ∷ tys) [] xs = None
first_wrong (ty ∷ tys) (t ∷ ts) [] = None
first_wrong (ty ∷ tys) (t ∷ ts) (x ∷ xs) = cond (same_type t.ty ty) (first_wrong tys ts xs) (Some (place_of_item x))

abbrev pub unless_wrong : Option Place → Result Term Refusal → Result Term Refusal
unless_wrong None a = a
unless_wrong (Some at) a = Err (refused Reason.SortMismatch at)

abbrev pub applied_at : Context → Place → List Sexp → List Term → List Ty → Op → Ty → Result Term Refusal
applied_at c at xs ts tys op ty = cond (length ts == length tys) (unless_wrong (first_wrong tys ts xs) (made_at c op ty ts)) (Err (refused Reason.Arity at))

abbrev pub type_among : List Term → ℕ → Ty
type_among [] i = Ty.Bool
type_among (t ∷ ts) zero = t.ty
type_among (t ∷ ts) (suc i) = type_among ts i

abbrev pub all_bool : List Term → List Ty
all_bool ts = map (λ (t : Term). Ty.Bool) ts

-- `=>`, from the right
abbrev pub implies_at : Context → Term → Term → Result Term Refusal
implies_at c a b = and_then (made_at c Op.Not Ty.Bool (a ∷ [])) (λ n. made_at c Op.Or Ty.Bool (n ∷ b ∷ []))

abbrev pub implied_at : Context → List Term → Result Term Refusal
implied_at c [] = Err (bad_shape c.command)
implied_at c (a ∷ []) = Ok a
implied_at c (a ∷ b ∷ ts) = and_then (implied_at c (b ∷ ts)) (implies_at c a)

-- `xor`, from the left
abbrev pub differs_at : Context → Term → Term → Result Term Refusal
differs_at c a b = and_then (made_at c Op.Iff Ty.Bool (a ∷ b ∷ [])) (λ e. made_at c Op.Not Ty.Bool (e ∷ []))

abbrev pub xor_from : Context → Term → List Term → Result Term Refusal
xor_from c a [] = Ok a
xor_from c a (b ∷ ts) = and_then (differs_at c a b) (λ d. xor_from c d ts)

abbrev pub xor_at : Context → List Term → Result Term Refusal
xor_at c [] = Err (bad_shape c.command)
xor_at c (a ∷ ts) = xor_from c a ts

-- `=`: the neighbouring pairs
abbrev pub same_at : Context → Term → Term → Result Term Refusal
same_at c a b = made_at c (cond (is_bool a.ty) Op.Iff Op.Equal) Ty.Bool (a ∷ b ∷ [])

abbrev pub neighbours_from : Context → Term → List Term → Result (List Term) Refusal
neighbours_from c a [] = Ok []
neighbours_from c a (b ∷ ts) = and_then (same_at c a b) (λ e. and_then (neighbours_from c b ts) (λ es. Ok (e ∷ es)))

abbrev pub equal_at : Context → List Term → Result Term Refusal
equal_at c [] = Err (bad_shape c.command)
equal_at c (a ∷ []) = Err (bad_shape c.command)
equal_at c (a ∷ b ∷ []) = same_at c a b
equal_at c (a ∷ b ∷ x ∷ ts) = and_then (neighbours_from c a (b ∷ x ∷ ts)) (made_at c Op.And Ty.Bool)

-- `distinct`: all pairs
abbrev pub distinct_at : Context → List Term → Result Term Refusal
distinct_at c ts = made_at c (Op.Distinct (is_bool (type_among ts 0))) Ty.Bool ts

abbrev pub all_of : Ty → List Term → List Ty
all_of ty ts = map (λ (t : Term). ty) ts

-- two or more arguments of one type
abbrev pub several_at : Place → List Sexp → Ty → (List Term → Result Term Refusal) → List Term → Result Term Refusal
several_at at xs ty go [] = Err (refused Reason.Arity at)
several_at at xs ty go (a ∷ []) = Err (refused Reason.Arity at)
several_at at xs ty go (a ∷ b ∷ ts) = unless_wrong (first_wrong (all_of ty (a ∷ b ∷ ts)) (a ∷ b ∷ ts) xs) (go (a ∷ b ∷ ts))

-- the operators of Core that take two or more of one type
unfoldable pub later_core_at : Context → Place → Name → List Sexp → List Term → Result Term Refusal
later_core_at c at n xs ts =
    cond (bytes_eq n.bytes (codes "=>")) (several_at at xs Ty.Bool (implied_at c) ts)
    (cond (bytes_eq n.bytes (codes "xor")) (several_at at xs Ty.Bool (xor_at c) ts)
    (cond (bytes_eq n.bytes (codes "=")) (several_at at xs (type_among ts 0) (equal_at c) ts)
    (cond (bytes_eq n.bytes (codes "distinct")) (several_at at xs (type_among ts 0) (distinct_at c) ts)
    (cond (is_truth n.bytes) (Err (refused Reason.Arity at))
    (Err (refused Reason.UnknownSymbol n.at))))))

-- the operators of Core, by their names
abbrev pub core_at : Context → Place → Name → List Sexp → List Term → Result Term Refusal
core_at c at n xs ts =
    cond (bytes_eq n.bytes (codes "not")) (applied_at c at xs ts (Ty.Bool ∷ []) Op.Not Ty.Bool)
    (cond (bytes_eq n.bytes (codes "and")) (applied_at c at xs ts (all_bool ts) Op.And Ty.Bool)
    (cond (bytes_eq n.bytes (codes "or")) (applied_at c at xs ts (all_bool ts) Op.Or Ty.Bool)
    (cond (bytes_eq n.bytes (codes "ite")) (let ty = type_among ts 1 in applied_at c at xs ts (Ty.Bool ∷ ty ∷ ty ∷ []) (cond (is_bool ty) Op.Ite Op.Choice) ty)
    (later_core_at c at n xs ts))))

-- a function applied to terms
abbrev pub fits_at : Context → Place → List Sexp → List Term → Function → Result Term Refusal
fits_at c at xs ts f = cond (length ts == length f.args) (unless_wrong (first_wrong f.args ts xs) (stands_at c f.stands f.result ts)) (Err (refused Reason.Arity at))

abbrev pub function_at : Context → Place → Name → List Sexp → List Term → Option Function → Result Term Refusal
function_at c at n xs ts None = core_at c at n xs ts
function_at c at n xs ts (Some f) = fits_at c at xs ts f
