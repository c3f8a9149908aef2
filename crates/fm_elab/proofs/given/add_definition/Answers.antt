use Rattle.fm_elab.proofs.Holding.{all_defined, on_ok_map}
use Rattle.fm_elab.proofs.Placing.{extends_trans}
use Rattle.fm_elab.proofs.given.add_definition.Goals as goal

pub returns-clause-added : goal.returns-clause-added
returns-clause-added c =
    on_ok_map c.define.result
    (all_defined c.args.first c.args.arena.now c.add_given.new.arena c.define.new.arena c.args.functions.now c.add_given.new.functions c.define.new.functions c.args.given.now c.args.name.now c.args.args c.args.body c.add_given.ensures.grows c.requires.body c.in_ok-add_given.ensures.added)
    c.define.ensures.added

pub returns-clause-extends : goal.returns-clause-extends
returns-clause-extends c = extends_trans c.args.first c.args.functions.now c.add_given.new.functions c.define.new.functions c.add_given.ensures.extends c.define.ensures.extends
