use Rattle.std.proofs.Common.{ℕ, List, length, [], ◌∙◌, subst, sym}
use borrow.Author.Tests.{ltb-true}
use Rattle.std.specs.Prelude.{IfOk}
use Rattle.fm_cells.specs.Apart.{AreEnteredAt}
use Rattle.fm_cells.specs.Rings.{own_or}
use Rattle.fm_cells.proofs.Keying.{get_any}
use Rattle.fm_cells.proofs.apart.enter_node.Goals as goal

pub returns-in-Some-clause-entered : goal.returns-in-Some-clause-entered
returns-in-Some-clause-entered c =
    let keys = c.enter_pairs.new.keys.keys in
    subst (λ (xs : List ℕ). IfOk c.enter_pairs.result (λ j. AreEnteredAt (own_or c.args.class.now.cells.items) c.args.pairs.now keys j xs)) (c.as_slice.ensures ∙ (c.in-Some.ensures.lookup.1 ∙ get_any c.args.sides.now c.args.node c.in-Some.places.now [] (ltb-true c.args.node (length c.args.sides.now) (sym c.in-Some.ensures.lookup.0)))) c.enter_pairs.ensures.entered
