use Rattle.std.proofs.Common.{ℕ, List, [], sym, subst}
use Rattle.fm_cells.specs.Rings.{AreRings, own_or, root_or}
use Rattle.fm_cells.specs.declared.rings.Root.{Root}
use Rattle.fm_cells.proofs.Pushing.{no_rings}
use Rattle.fm_cells.proofs.rings.Classes.new.Goals as goal

pub returns-clause-rings : goal.returns-clause-rings
returns-clause-rings c =
    let class = sym c.new.ensures.cells in
    let next = sym c.new-2.ensures.cells in
    let size = sym c.new-3.ensures.cells in
    subst (λ (n : List ℕ). AreRings (own_or n) (own_or c.new.result.cells.items) (root_or c.new-3.result.cells.items)) next
    (subst (λ (k : List ℕ). AreRings (own_or []) (own_or k) (root_or c.new-3.result.cells.items)) class
    (subst (λ (s : List Root). AreRings (own_or []) (own_or []) (root_or s)) size no_rings))
