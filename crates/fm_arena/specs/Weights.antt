-- What a term weighs where each name in scope stands for a tree of a known measure: the size and the depth of what a use of a
-- definition means, without its tree.
use Rattle.std.specs.Prelude.{◌≡◌, ℕ, suc, ◌+◌, ◌*◌, ◌≤◌, max, nat_lt, nat_eq, cond, Bool, true, false, List, [], ◌∷◌, ◌++◌, map, length, slice_get, Option, Some, None, Result, IfOk, IfSome}
use Rattle.fm_base.specs.Truth.{is_bool}
use Rattle.fm_base.specs.declared.ids.Memory.{Memory}
use Rattle.fm_arena.specs.Trees.{of_kind}
use Rattle.fm_arena.specs.Measures.{one, over, weigh, tree_measure}
use Rattle.fm_arena.specs.Meanings.{Names, Term, term_of}
use Rattle.fm_arena.specs.declared.forms.Form.{Form}
use Rattle.fm_arena.specs.declared.forms.Param.{Param}
use Rattle.fm_arena.specs.declared.forms.Reads.{Reads}
use Rattle.fm_arena.specs.declared.node.Entry.{Entry}
use Rattle.fm_arena.specs.declared.node.Node.{Node}
use Rattle.fm_arena.specs.declared.sizes.Measure.{Measure}

-- the measures of the names by their places, each read as a formula and as a term
abbrev pub Weights : Type 0
Weights = ℕ → Bool → Measure

abbrev pub Weighing : Type 0
Weighing = Weights → Measure

pub record Weighed : Type 0 where
  pub truth : Bool
  pub weighing : Weighing

abbrev pub ones : Weights
ones place truth = one

-- the names within a block
abbrev pub inside_weights : ℕ → Weights → Weights
inside_weights base w place truth = cond (nat_lt place base) (w place truth) one

-- a tree of a kind where one of a kind is wanted
abbrev pub read_as : Bool → Bool → Measure → Measure
read_as true true m = m
read_as true false m = one
read_as false true m = one
read_as false false m = m

abbrev pub weighing_in : Option Weighed → Weighing
weighing_in None w = one
weighing_in (Some f) w = f.weighing w

abbrev pub weight_at : List Weighed → ℕ → Weighing
weight_at fs i = weighing_in (slice_get fs i)

abbrev pub truth_in : Option Weighed → Bool
truth_in None = true
truth_in (Some f) = f.truth

abbrev pub argument_of : List Weighed → Weights → Option ℕ → Bool → Measure
argument_of fs w None truth = one
argument_of fs w (Some i) truth = read_as (truth_in (slice_get fs i)) truth (weight_at fs i w)

-- what stands for the parameters of a definition that is used
abbrev pub arguments : List Weighed → List ℕ → Weights → Weights
arguments fs is w place truth = argument_of fs w (slice_get is place) truth

abbrev pub weighing_of : List Weighed → Node → Weighing
weighing_of fs (Node.Name place truth) w = w place truth
weighing_of fs (Node.Made op parts) w = weigh op (map (λ (i : ℕ). weight_at fs i w) parts)
weighing_of fs (Node.Quant all vars base body) w = over (weight_at fs body (inside_weights base w) ∷ [])
weighing_of fs (Node.Defined body form) w = weight_at fs body w
weighing_of fs (Node.Use body args form) w = weight_at fs body (arguments fs args w)

abbrev pub weighed : List Weighed → Entry → Weighed
weighed fs e = record { truth = is_bool e.ty; weighing = weighing_of fs e.node }

abbrev pub weighed_after : List Weighed → List Entry → List Weighed
weighed_after fs [] = fs
weighed_after fs (e ∷ es) = weighed_after (fs ++ weighed fs e ∷ []) es

abbrev pub weighed_of : List Entry → List Weighed
weighed_of es = weighed_after [] es

-- the names stand for trees of these measures
abbrev pub Stand : Names → Weights → Type 0
Stand names w = (place d : ℕ) (truth : Bool) → tree_measure (of_kind truth (names place d)) ≡ w place truth

pub record IsWeighed (t : Term) (f : Weighed) : Type 0 where
  pub truth : f.truth ≡ is_bool t.ty
  pub weight : (names : Names) (w : Weights) (d : ℕ) → Stand names w → tree_measure (t.meaning names d) ≡ f.weighing w

abbrev pub AreWeighed : List Term → List Weighed → Type 0
AreWeighed [] [] = Unit {0}
AreWeighed [] (f ∷ fs) = ⊥
AreWeighed (t ∷ ts) [] = ⊥
AreWeighed (t ∷ ts) (f ∷ fs) = IsWeighed t f × AreWeighed ts fs

-- What a term weighs, as it is kept: what is its own, and how often and how deep each parameter is read.

abbrev pub no_measure : Measure
no_measure = record { size = 0; depth = 0 }

abbrev pub beside : Measure → Measure → Measure
beside a b = record { size = a.size + b.size; depth = max a.depth b.depth }

-- a part that is read so often, under so many nodes at most
abbrev pub reach : Reads → Measure → Measure
reach r m = cond (nat_eq r.count 0) no_measure (record { size = r.count * m.size; depth = r.above + m.depth })

abbrev pub param_weight : Param → ℕ → Weights → Measure
param_weight p place w = beside (reach p.truths (w place true)) (reach p.things (w place false))

abbrev pub params_weight : List Param → ℕ → Weights → Measure
params_weight [] place w = no_measure
params_weight (p ∷ ps) place w = beside (param_weight p place w) (params_weight ps (suc place) w)

abbrev pub form_weight : Form → Weights → Measure
form_weight f w = beside f.own (params_weight f.params 0 w)

-- the form says what a term weighs, whatever stands for its parameters, where further names count as one node
abbrev pub IsForm : List Weighed → ℕ → Form → Type 0
IsForm fs body form = (w : Weights) → weight_at fs body (inside_weights (length form.params) w) ≡ form_weight form w

-- a form that is found, if one is, says what a node weighs
abbrev pub FindsForm : List Weighed → Node → Result (Option Form) Memory → Type 0
FindsForm fs node result = (w : Weights) → IfOk result (λ o. IfSome o (λ form. weighing_of fs node (inside_weights (length form.params) w) ≡ form_weight form w))

pub record IsUse (fs : List Weighed) (body : ℕ) (args : List ℕ) (form : Form) : Type 0 where
  pub weighs : IsForm fs body form
  pub enough : length args ≤ length form.params

abbrev pub HasForm : List Weighed → Node → Type 0
HasForm fs (Node.Name place truth) = Unit {0}
HasForm fs (Node.Made op parts) = Unit {0}
HasForm fs (Node.Quant all vars base body) = Unit {0}
HasForm fs (Node.Defined body form) = IsForm fs body form
HasForm fs (Node.Use body args form) = IsUse fs body args form

-- an entry behind others weighs as its node says, and what its node keeps is right
pub record Follows (ts : List Term) (fs : List Weighed) (e : Entry) : Type 0 where
  pub weighed : IsWeighed (term_of ts e) (weighed fs e)
  pub formed : HasForm fs e.node

abbrev pub AreWeighedAfter : List Term → List Weighed → List Entry → Type 0
AreWeighedAfter ts fs [] = Unit {0}
AreWeighedAfter ts fs (e ∷ es) = Follows ts fs e × AreWeighedAfter (ts ++ term_of ts e ∷ []) (fs ++ weighed fs e ∷ []) es
