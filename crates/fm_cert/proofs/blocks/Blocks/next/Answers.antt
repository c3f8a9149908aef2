use Rattle.std.proofs.Common.{sym, subst}
use Rattle.fm_cert.specs.Blockwise.{IsAt}
use Rattle.fm_cert.specs.declared.fail.CertFail.TheVariants as fail
use Rattle.fm_cert.proofs.BlockReads.{at_fault, same_error}
use Rattle.fm_cert.proofs.blocks.Blocks.next.Goals as goal

pub returns-in-Err-clause-fault : goal.returns-in-Err-clause-fault
returns-in-Err-clause-fault c = λ at e text blocks is. at_fault text blocks (record { rest = c.self.inside.rest.now; line = c.self.inside.line }) at.line (subst (IsAt text blocks) (sym c.self.view_is) is) (c.in-Err.ensures.fault at (same_error c.in-Err.fail (fail.Text at) e))
