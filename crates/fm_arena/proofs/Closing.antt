-- The trees of an arena's terms where no name is in scope.
use Rattle.std.proofs.Common.{◌≡◌, ℕ, Bool, true, false, List, ap, refl, subst, ◌∙◌}
use Rattle.fm_base.specs.declared.formula.Formula.{Formula}
use Rattle.fm_base.specs.declared.formula.Fterm.{Fterm}
use Rattle.fm_arena.specs.Trees.{formula_in, thing_in, is_truth}
use Rattle.fm_arena.specs.Meanings.{no_names, kind_at, terms_of, tree_at}
use Rattle.fm_arena.specs.Kept.{AreMeasured}
use Rattle.fm_arena.specs.declared.node.Entry.{Entry}
use Rattle.fm_arena.specs.declared.node.Tree.{Tree}
use Rattle.fm_arena.proofs.Growing.{kind_is}

truth_again : (t : Tree) → is_truth t ≡ true → Tree.Truth (formula_in t) ≡ t
truth_again (Tree.Truth f) e = refl
truth_again (Tree.Thing t) e = cc

thing_again : (t : Tree) → is_truth t ≡ false → Tree.Thing (thing_in t) ≡ t
thing_again (Tree.Truth f) e = cc
thing_again (Tree.Thing t) e = refl

tree_closed : (slice inside now : List Entry) (i : ℕ) (t : Tree) → slice ≡ inside → inside ≡ now → t ≡ tree_at (terms_of slice) i → t ≡ tree_at (terms_of now) i
tree_closed slice inside now i t v x e =
    e ∙ ap (λ (es : List Entry). tree_at (terms_of es) i) (v ∙ x)

kind_closed : (inside now : List Entry) (i : ℕ) (b : Bool) → inside ≡ now → AreMeasured (terms_of inside) inside → kind_at (terms_of now) i ≡ b → is_truth (tree_at (terms_of now) i) ≡ b
kind_closed inside now i b x h k =
    subst (λ (es : List Entry). is_truth (tree_at (terms_of es) i) ≡ kind_at (terms_of es) i) x (kind_is (terms_of inside) inside i h no_names 0) ∙ k

pub formula_closed : (slice inside now : List Entry) (i : ℕ) (t : Tree) (f : Formula) → slice ≡ inside → inside ≡ now → AreMeasured (terms_of inside) inside → kind_at (terms_of now) i ≡ true
    → t ≡ tree_at (terms_of slice) i → f ≡ formula_in t → Tree.Truth f ≡ tree_at (terms_of now) i
formula_closed slice inside now i t f v x h k e g =
    let same = tree_closed slice inside now i t v x e in
    ap (λ (a : Formula). Tree.Truth a) (g ∙ ap formula_in same) ∙ truth_again (tree_at (terms_of now) i) (kind_closed inside now i true x h k)

pub term_closed : (slice inside now : List Entry) (i : ℕ) (t : Tree) (f : Fterm) → slice ≡ inside → inside ≡ now → AreMeasured (terms_of inside) inside → kind_at (terms_of now) i ≡ false
    → t ≡ tree_at (terms_of slice) i → f ≡ thing_in t → Tree.Thing f ≡ tree_at (terms_of now) i
term_closed slice inside now i t f v x h k e g =
    let same = tree_closed slice inside now i t v x e in
    ap (λ (a : Fterm). Tree.Thing a) (g ∙ ap thing_in same) ∙ thing_again (tree_at (terms_of now) i) (kind_closed inside now i false x h k)
