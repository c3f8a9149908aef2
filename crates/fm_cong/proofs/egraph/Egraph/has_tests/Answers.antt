use Rattle.std.proofs.Common.{subst}
use Rattle.std.specs.Prelude.{◌==◌}
use Rattle.std.proofs.lemmas.Bool.{eq-eqb, eqb-true}
use Rattle.fm_bank.specs.Closure.{object}
use Rattle.fm_cells.specs.Rings.{own_or}
use Rattle.fm_cong.specs.Facts.{are_parted}
use Rattle.fm_cong.specs.Graphs.{cells_of, pairs_of}
use Rattle.fm_cong.specs.Tests.{HasTests}
use Rattle.fm_cong.proofs.Asking.{parted_from, parted_to}
use Rattle.fm_cong.proofs.Keeping.{complete_in}
use Rattle.fm_cong.proofs.Reading.{classes_exact}
use Rattle.fm_cong.proofs.egraph.Egraph.has_tests.Goals as goal

pub returns : goal.returns
returns c =
    let g = c.self.inside in
    let facts = g.state.facts.items in
    let cells = g.state.classes.class.cells.items in
    let class = own_or cells in
    let complete = complete_in g c.self.invariant.sound c.args.self.now c.self.view_is c.requires.settled in
    let exact = classes_exact g.members.items (cells_of g.state) complete in
    subst HasTests c.self.view_is (
      record { same = λ x y. class x == class y; apart = λ a b. are_parted cells (object a) (object b) facts },
      record {
        same_is = λ x y. ((λ t. (exact x y).0 (eqb-true (class x) (class y) t)), (λ h. eq-eqb (class x) (class y) ((exact x y).1 h)));
        apart_is = λ a b. (parted_from g.members.items (pairs_of facts) cells exact a b facts, parted_to g.members.items (pairs_of facts) cells exact a b facts);
      },
    )
