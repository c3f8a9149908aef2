use Rattle.std.proofs.Common.{◌∙◌}
use Rattle.fm_truth.specs.Room.{room_of}
use Rattle.fm_truth.proofs.Largest.{all_within}
use Rattle.fm_truth.proofs.rooms.Env.for_formulas.Goals as goal

pub returns : goal.returns
returns c = all_within room_of c.args.list.now c.in_ok-env.env (c.in_ok-env.ensures ∙ c.in_ok-places.ensures)
