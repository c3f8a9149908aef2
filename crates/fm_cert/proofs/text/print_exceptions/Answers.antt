use Rattle.std.proofs.Common.{◌++◌, ap, subst, ◌∙◌}
use Rattle.fm_cert.specs.Fits.{FitsException}
use Rattle.fm_cert.specs.Spelling.{spelling_of_exception}
use Rattle.fm_cert.proofs.Taken.{taken_more, text_more}
use Rattle.fm_cert.proofs.text.print_exceptions.Goals as goal

pub loop-exception-preserved : goal.loop-exception-preserved
loop-exception-preserved c =
    let x = c.exception-item.result in
    let text = c.in_ok-print_exception.ensures.whole ∙ ap (λ e. c.loop-exception.out.items ++ spelling_of_exception e) c.exception-item.is in (
      text_more spelling_of_exception c.args.out.now.items c.loop-exception.out.items c.print_exception.new.out.items c.args.except.now c.loop-exception.exception-index x c.loop-exception-test.true c.loop-exception.invariant.0 text,
      taken_more FitsException c.args.except.now c.loop-exception.exception-index x c.loop-exception-test.true c.loop-exception.invariant.1 (subst FitsException c.exception-item.is c.in_ok-print_exception.ensures.fits),
    )
