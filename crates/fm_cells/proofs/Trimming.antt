-- Links up to the last: nothing more is said of a node.
use Rattle.std.proofs.Common.{◌≡◌, ℕ, zero, suc, List, [], ◌∷◌, ◌++◌, Option, Some, None, refl, ap, ◌∙◌, get_or}
use Rattle.fm_cells.specs.Forest.{before_rest, link_of, trimmed}
use Rattle.fm_cells.specs.declared.edge.Edge.{Edge}

pub trimmed_push : (links : List (Option Edge)) → trimmed (links ++ None ∷ []) ≡ trimmed links
trimmed_push [] = refl
trimmed_push (x ∷ xs) = ap (before_rest x) (trimmed_push xs)

first_rest : (x : Option Edge) (xs : List (Option Edge)) → get_or (before_rest x xs) zero None ≡ x
first_rest None [] = refl
first_rest None (y ∷ ys) = refl
first_rest (Some l) xs = refl

later_rest : (x : Option Edge) (xs : List (Option Edge)) (n : ℕ) → get_or (before_rest x xs) (suc n) None ≡ get_or xs n None
later_rest None [] n = refl
later_rest None (y ∷ ys) n = refl
later_rest (Some l) xs n = refl

at_node : (links : List (Option Edge)) (n : ℕ) → get_or (trimmed links) n None ≡ get_or links n None
at_node [] n = refl
at_node (x ∷ xs) zero = first_rest x (trimmed xs)
at_node (x ∷ xs) (suc n) = later_rest x (trimmed xs) n ∙ at_node xs n

pub trimmed_link : (links : List (Option Edge)) → link_of (trimmed links) ≡ link_of links
trimmed_link links i n = at_node links n i
