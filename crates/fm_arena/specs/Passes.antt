-- What is left to weigh of a definition's body, while a pass goes over its terms from the last one down.
use Rattle.std.specs.Prelude.{◌≡◌, ℕ, suc, ◌+◌, ◌*◌, ◌-◌, ◌≤◌, Bool, true, false, List, [], ◌∷◌, length, map, Result, IfOk, OnOk}
use Rattle.fm_arena.specs.Measures.{all_pairs, one, over, weigh}
use Rattle.fm_arena.specs.Weights.{Weights, Weighed, Weighing, arguments, beside, form_weight, inside_weights, no_measure, param_weight, params_weight, reach, weight_at, weighed_of, weighing_of}
use Rattle.fm_arena.specs.declared.forms.Form.{Form}
use Rattle.fm_base.specs.declared.ids.Memory.{Memory}
use Rattle.fm_arena.specs.declared.node.Entry.{Entry}
use Rattle.fm_arena.specs.declared.node.Node.{Node}
use Rattle.fm_arena.specs.declared.node.Op.{Op}
use Rattle.fm_arena.specs.declared.passes.Pass.{Pass}
use Rattle.fm_arena.specs.declared.forms.Param.{Param}
use Rattle.fm_arena.specs.declared.forms.Reads.{Reads}
use Rattle.fm_arena.specs.declared.sizes.Measure.{Measure}

-- the reads of what is itself read in a part
abbrev pub through : Reads → Reads → Reads
through r s = record { count = r.count * s.count; above = r.above + s.above }

-- so many nodes further down
abbrev pub deeper : ℕ → Reads → Reads
deeper n r = record { count = r.count; above = r.above + n }

-- parts that are read alike
abbrev pub reached : Reads → List Measure → Measure
reached r [] = no_measure
reached r (m ∷ ms) = beside (reach r m) (reached r ms)

-- the reads of the terms before a number, from the last one down
abbrev pub marks_weight : List Weighed → ℕ → List Reads → Weights → Measure
marks_weight fs n [] w = no_measure
marks_weight fs n (r ∷ rs) w = beside (reach r (weight_at fs (n - 1) w)) (marks_weight fs (n - 1) rs w)

-- what is found, and what is left
abbrev pub pass_weight : List Weighed → ℕ → Pass → Weights → Measure
pass_weight fs n p w = beside p.own (beside (params_weight p.params.items 0 w) (marks_weight fs n p.marks.items w))

-- a pass that has found nothing
abbrev pub WeighsNothing : Result Pass Memory → Type 0
WeighsNothing result = (fs : List Weighed) (n : ℕ) (w : Weights) → IfOk result (λ p. pass_weight fs n p w ≡ no_measure)

-- other marks, that weigh the same
abbrev pub KeepsMarks : List Reads → List Reads → Result Unit Memory → Type 0
KeepsMarks old new result = (fs : List Weighed) (n : ℕ) (w : Weights) → OnOk result (marks_weight fs n new w ≡ marks_weight fs n old w)

-- a parameter that is read more often, as a formula or as a term
abbrev pub ReadsMore : Param → Bool → Reads → Result Param Memory → Type 0
ReadsMore param truth reads result = (place : ℕ) (w : Weights) → IfOk result (λ p. param_weight p place w ≡ beside (param_weight param place w) (reach reads (w place truth)))

-- names past the parameters count as one node
abbrev pub AreOnesPast : ℕ → Weights → Type 0
AreOnesPast n w = (place : ℕ) (truth : Bool) → n ≤ place → w place truth ≡ one

-- what a step adds, over the terms before a number
pub record Gains (fs : List Weighed) (n : ℕ) (old new : Pass) (gain : Weighing) : Type 0 where
  pub weight : (w : Weights) → AreOnesPast (length old.params.items) w → pass_weight fs n new w ≡ beside (pass_weight fs n old w) (gain w)
  pub params : length new.params.items ≡ length old.params.items
  pub few : length old.marks.items ≤ n → length new.marks.items ≤ n

-- what a call adds, where it doesn't fail
abbrev pub Counts : List Entry → Pass → Pass → (List Weighed → Weighing) → Result Unit Memory → Type 0
Counts before old new gain result = OnOk result (Gains (weighed_of before) (length before) old new (gain (weighed_of before)))

abbrev pub part_gain : List Weighed → Reads → ℕ → Weighing
part_gain fs r i w = reach r (weight_at fs i w)

abbrev pub parts_gain : List Weighed → Reads → List ℕ → Weighing
parts_gain fs r is w = reached r (map (λ (i : ℕ). weight_at fs i w) is)

abbrev pub name_gain : Reads → ℕ → Bool → Weighing
name_gain r place truth w = reach r (w place truth)

abbrev pub own_gain : Reads → Measure → Weighing
own_gain r m w = reach r m

abbrev pub made_gain : List Weighed → Reads → Op → List ℕ → Weighing
made_gain fs r op is w = reach r (weigh op (map (λ (i : ℕ). weight_at fs i w) is))

abbrev pub pairs_gain : List Weighed → Reads → List ℕ → Weighing
pairs_gain fs r is w = reach r (over (all_pairs (map (λ (i : ℕ). weight_at fs i w) is)))

abbrev pub node_gain : List Weighed → Reads → Node → Weighing
node_gain fs r node w = reach r (weighing_of fs node w)

abbrev pub block_gain : List Weighed → Reads → ℕ → ℕ → Weighing
block_gain fs r base body w = reach r (over (weight_at fs body (inside_weights base w) ∷ []))

-- what stands for the parameters of a form: the names themselves, or arguments
abbrev pub standing : List Weighed → Bool → List ℕ → Weights → Weights
standing fs true is w = w
standing fs false is w = arguments fs is w

abbrev pub read_gain : List Weighed → Reads → Bool → List ℕ → ℕ → Bool → Weighing
read_gain fs r named is place truth w = reach r (standing fs named is w place truth)

abbrev pub param_gain : List Weighed → Reads → Bool → List ℕ → ℕ → Param → Weighing
param_gain fs r named is place p w = beside (reach (through r p.truths) (standing fs named is w place true)) (reach (through r p.things) (standing fs named is w place false))

abbrev pub params_gain : List Weighed → Reads → Bool → List ℕ → List Param → ℕ → Weighing
params_gain fs r named is [] place w = no_measure
params_gain fs r named is (p ∷ ps) place w = beside (param_gain fs r named is place p w) (params_gain fs r named is ps (suc place) w)

abbrev pub form_gain : List Weighed → Reads → Bool → List ℕ → Form → Weighing
form_gain fs r named is form w = reach r (form_weight form (standing fs named is w))
