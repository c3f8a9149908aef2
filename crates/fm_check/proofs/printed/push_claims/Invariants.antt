use Rattle.std.proofs.Common.{◌≡◌, ◌++◌, ◌≤◌, take, drop}
use Rattle.fm_check.specs.Printed.{claim_lines}
use Rattle.fm_check.proofs.printed.push_claims.Given as goal

abbrev pub invariant-loop-claim : goal.invariant-loop-claim
invariant-loop-claim l = record {
  text : l.text.items ++ claim_lines l.number (drop l.claim-index l.claims) ≡ l.fn.text.items ++ claim_lines 0 l.claims;
  few : l.number ≤ l.claim-index;
}
