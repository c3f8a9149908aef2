use Rattle.std.proofs.Common.{ap}
use Rattle.std.specs.Prelude.{slice_set}
use Rattle.fm_closure.proofs.Uniting.{listed_emptied}
use Rattle.fm_closure.proofs.members.move_class.Goals as goal

pub returns-clause-listed : goal.returns-clause-listed
returns-clause-listed c =
    let ms = c.move_members.new.members.items in
    listed_emptied c.move_members.new.numbers.items ms (slice_set ms c.args.from c.new.result) c.args.from c.in_ok-move_members.ensures.emptied (ap (slice_set ms c.args.from) c.new.ensures) c.in_ok-move_members.ensures.listed
