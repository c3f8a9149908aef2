use Rattle.std.proofs.Common.{length, ap, arith, ◌∙◌}
use Rattle.fm_cert.specs.Rows.{rows_of_claim}
use Rattle.fm_cert.specs.declared.block.Claim.{Claim}
use Rattle.fm_blocks.proofs.EndingLaws.{sat_long}
use Rattle.fm_blocks.proofs.ending.check_ending.Goals as goal

pub check_sat-requires-clause-room : goal.check_sat-requires-clause-room
check_sat-requires-clause-room c =
    let long = ap (λ (claim : Claim). length (rows_of_claim claim)) c.in-Sat.is ∙ sat_long c.in-Sat.sum c.in-Sat.model in
    let room = c.requires.room in
    omega (arith, long, room)
