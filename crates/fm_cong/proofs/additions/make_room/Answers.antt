use Rattle.std.proofs.Common.{ℕ, List, subst}
use Rattle.fm_cong.specs.Growth.{HasPlace}
use Rattle.fm_cong.proofs.additions.make_room.Goals as goal

pub returns-clause-place : goal.returns-clause-place
returns-clause-place c = subst (λ (args : List ℕ). HasPlace c.note_uses.new.uses.items args c.args.place) c.args-2.ensures c.in_ok-note_uses.ensures.there
