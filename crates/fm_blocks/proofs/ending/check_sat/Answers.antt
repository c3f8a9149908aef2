use Rattle.std.proofs.Common.{◌≡◌, ◌+◌, true, sym}
use Rattle.fm_base.specs.Interpretations.{is_fit}
use Rattle.fm_cert.specs.Claims.{ShowsLeast}
use Rattle.fm_blocks.specs.Endings.{IsModelOfSum}
use Rattle.fm_resolve.specs.Stores.{clauses_in}
use Rattle.fm_blocks.proofs.FitLines.{good_lines_are_fit}
use Rattle.fm_blocks.proofs.StateLaws.{none_so}
use Rattle.fm_blocks.proofs.ending.check_sat.Goals as goal

pub is_sat-requires-clause-fits : goal.is_sat-requires-clause-fits
is_sat-requires-clause-fits c = (good_lines_are_fit c.args.sig.now (c.args.at + 1) c.args.model.now c.requires.names).0 (sym c.in_default.ensures)

pub returns-clause-good : goal.returns-clause-good
returns-clause-good c =
    let sig = c.args.sig.now in
    let model = c.args.model.now in
    let fits : is_fit sig model ≡ true = (good_lines_are_fit sig (c.args.at + 1) model c.requires.names).0 (sym c.in_default.ensures) in
    none_so (c.in_ok-is_good.is_good ≡ true) ((is_fit sig model ≡ true) × ShowsLeast (clauses_in c.args.store.now) c.args.sum × IsModelOfSum sig c.args.assertions.now c.args.sum model) c.ending_fault.result (λ e. let h = c.in_ok-is_good.ensures.yes e in (fits, h.0, h.1)) c.ending_fault.ensures.good
