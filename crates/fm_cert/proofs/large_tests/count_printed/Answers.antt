use Rattle.std.proofs.Common.{subst}
use Rattle.std.specs.Prelude.{IfSome}
use Rattle.fm_cert.specs.Fits.{FitsBlock}
use Rattle.fm_cert.proofs.Printable.{printable}
use Rattle.fm_cert.proofs.large_tests.count_printed.Goals as goal

pub print-requires : goal.print-requires
print-requires c = printable c.in-Some.block (subst (λ o. IfSome o FitsBlock) c.in-Some.is c.in_ok-block.ensures.fits)
