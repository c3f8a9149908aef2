use Rattle.std.proofs.Common.{◌∙◌, sym}
use Rattle.std.proofs.lemmas.Bool.{eq-eqb, eqb-true}
use Rattle.fm_cells.proofs.Relabeling.{own_at}
use Rattle.fm_cong.specs.Graphs.{cells_of}
use Rattle.fm_cong.proofs.Reading.{follows_one_class, one_class_follows}
use Rattle.fm_cong.proofs.levels.are_same.Goals as goal

pub returns : goal.returns
returns c =
    let cs = cells_of c.args.state.now in
    let x = own_at c.args.state.now.classes.class.cells.items c.args.node c.get.result c.get.ensures in
    let y = own_at c.args.state.now.classes.class.cells.items c.args.other c.get-2.result c.get-2.ensures in (
      (λ t. one_class_follows c.args.members.now cs c.requires.settled c.args.node c.args.other (x ∙ (eqb-true c.get.result c.get-2.result t ∙ sym y))),
      (λ h. eq-eqb c.get.result c.get-2.result (sym x ∙ (follows_one_class c.args.members.now cs c.requires.settled c.args.node c.args.other h ∙ y))),
    )
