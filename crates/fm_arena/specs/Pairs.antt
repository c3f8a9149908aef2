-- All pairs of a list, one behind the other: how the trees of a `distinct` are laid out before its formula is made.
use Rattle.std.specs.Prelude.{◌≡◌, Bool, List, [], ◌∷◌, ◌++◌, Option, Some, None, Result, IfOk}
use Rattle.fm_base.specs.declared.formula.Formula.{Formula}
use Rattle.fm_base.specs.declared.ids.Memory.{Memory}
use Rattle.fm_arena.specs.Trees.{apart}
use Rattle.fm_arena.specs.declared.node.Tree.{Tree}

-- an element with each of the others
abbrev pub each_pair : {A : Type 0} → A → List A → List A
each_pair x [] = []
each_pair x (y ∷ ys) = x ∷ y ∷ each_pair x ys

abbrev pub flat_pairs : {A : Type 0} → List A → List A
flat_pairs [] = []
flat_pairs (x ∷ xs) = each_pair x xs ++ flat_pairs xs

abbrev pub paired : Bool → List Tree → List Formula
paired truth [] = []
paired truth (a ∷ []) = []
paired truth (a ∷ b ∷ ts) = apart truth a b ∷ paired truth ts

-- the tree that waits for its other
abbrev pub held_list : Option Tree → List Tree
held_list None = []
held_list (Some t) = t ∷ []

-- a tree more, where one may wait: what is paired, now and with the trees that follow, is the same
abbrev pub PairsUp : Bool → List Formula → Option Tree → Tree → List Formula → Result (Option Tree) Memory → Type 0
PairsUp truth old held tree new result = (rest : List Tree) → IfOk result (λ o. new ++ paired truth (held_list o ++ rest) ≡ old ++ paired truth (held_list held ++ tree ∷ rest))
