use Rattle.std.proofs.Common.{ℕ, ◌++◌, ◌∷◌, [], List, sym, subst, ap, ◌∙◌}
use Rattle.fm_cells.specs.Rings.{AreRings, own_or, root_or}
use Rattle.fm_cells.specs.declared.rings.Root.{Root}
use Rattle.fm_cells.proofs.Pushing.{rings_push}
use Rattle.fm_cells.proofs.rings.Classes.push_within.Goals as goal

pub returns-clause-rings : goal.returns-clause-rings
returns-clause-rings c = λ same as_many rings.
    let s = c.args.self.now in
    let n = c.len-node.result in
    let class = sym c.push_within.ensures.cells in
    let next = sym c.push_within-2.ensures.cells in
    let size = sym (c.push_within-3.ensures.cells ∙ ap (λ (z : Root). s.size.cells.items ++ z ∷ []) c.alone.ensures) in
    subst (λ (n : List ℕ). AreRings (own_or n) (own_or c.push_within.new.self.cells.items) (root_or c.push_within-3.new.self.cells.items)) next
    (subst (λ (k : List ℕ). AreRings (own_or (s.next.cells.items ++ c.len-node.result ∷ [])) (own_or k) (root_or c.push_within-3.new.self.cells.items)) class
    (subst (λ (z : List Root). AreRings (own_or (s.next.cells.items ++ c.len-node.result ∷ [])) (own_or (s.class.cells.items ++ c.len-node.result ∷ [])) (root_or z)) size
    (rings_push s.class.cells.items s.next.cells.items s.size.cells.items n c.len-node.ensures same as_many rings)))
