-- A step of a loop over the members of an Or.
use Rattle.std.proofs.Common.{◌≡◌, ℕ, suc, ◌+◌, ◌<◌, ◌≤◌, ◌||◌, List, [], ◌∷◌, ◌++◌, length, map, get_or, drop, ap, sym, subst, ◌∙◌, append_assoc, add-one}
use Rattle.std.proofs.lemmas.List.{drop_more, drop_all}
use Rattle.fm_base.specs.declared.ids.SortId.{SortId}
use Rattle.fm_base.specs.declared.signature.Rank.{Rank}
use Rattle.fm_base.specs.declared.formula.Nnf.{Nnf}
use Rattle.fm_base.specs.declared.formula.Pterm.{Pterm}
use Rattle.fm_bank.specs.declared.clause.Plit.{Plit}
use Rattle.fm_nnf.specs.NormalForm.{all_variables}
use Rattle.fm_clauses.specs.Table.{node, all_parts, has_always}
use Rattle.fm_clauses.specs.Adding.{AddsHeads}
use Rattle.fm_clauses.proofs.Parts.{has_always_append, adds_heads_more, adds_no_heads}

pub drop_read : {X : Type 0} (xs : List X) (i : ℕ) (x : X) → i < length xs → x ≡ get_or xs i x → drop i xs ≡ x ∷ drop (i + 1) xs
drop_read xs i x lt e = drop_more xs i x lt ∙ ap (λ y. y ∷ drop (i + 1) xs) (sym e)

pub always_step : (fs : List Nnf) (i : ℕ) (x : Nnf) → i < length fs → x ≡ get_or fs i x → has_always (all_parts (map node (drop i fs))) ≡ (has_always (node x).parts || has_always (all_parts (map node (drop (i + 1) fs))))
always_step fs i x lt e = ap (λ (ys : List Nnf). has_always (all_parts (map node ys))) (drop_read fs i x lt e) ∙ has_always_append (node x).parts (all_parts (map node (drop (i + 1) fs)))

pub variables_step : (scope : List SortId) (i : ℕ) (made : List Pterm) → i < length scope → (made ++ Pterm.Var i ∷ []) ++ all_variables (i + 1) (drop (i + 1) scope) ≡ made ++ all_variables i (drop i scope)
variables_step scope i made lt =
    let s : SortId = record { 0 = 0 } in
    let next : all_variables (i + 1) (drop (i + 1) scope) ≡ all_variables (suc i) (drop (i + 1) scope) = ap (λ (n : ℕ). all_variables n (drop (i + 1) scope)) (add-one i) in
    append_assoc made (Pterm.Var i ∷ []) (all_variables (i + 1) (drop (i + 1) scope)) ∙ ap (λ (ts : List Pterm). made ++ Pterm.Var i ∷ ts) next ∙ ap (λ (ss : List SortId). made ++ all_variables i ss) (sym (drop_more scope i s lt))

pub heads_step : (fs : List Nnf) (i : ℕ) (x : Nnf) → i < length fs → x ≡ get_or fs i x → (scope : List SortId) (first : ℕ) (l0 l1 l2 : List Plit) (r0 r1 r2 : List Rank) → AddsHeads (node x).parts scope first l0 r0 l1 r1 → AddsHeads (all_parts (map node (drop (i + 1) fs))) scope first l1 r1 l2 r2
    → AddsHeads (all_parts (map node (drop i fs))) scope first l0 r0 l2 r2
heads_step fs i x lt e scope first l0 l1 l2 r0 r1 r2 one two =
    subst (λ (ys : List Nnf). AddsHeads (all_parts (map node ys)) scope first l0 r0 l2 r2) (sym (drop_read fs i x lt e)) (adds_heads_more (node x).parts (all_parts (map node (drop (i + 1) fs))) scope first l0 l1 l2 r0 r1 r2 one two)

pub heads_end : (fs : List Nnf) (i : ℕ) → length fs ≤ i → (scope : List SortId) (first : ℕ) (l : List Plit) (r : List Rank) → AddsHeads (all_parts (map node (drop i fs))) scope first l r l r
heads_end fs i le scope first l r = subst (λ (ys : List Nnf). AddsHeads (all_parts (map node ys)) scope first l r l r) (sym (drop_all i fs le)) (adds_no_heads scope first l r)
