use Rattle.std.proofs.Common.{ap, sym, ◌∙◌}
use Rattle.std.specs.Option.{option_map}
use Rattle.fm_bank.specs.Instances.{all_there}
use Rattle.fm_bank.specs.Terms.{numbers}
use Rattle.fm_bank.proofs.Lookups.{application_found}
use Rattle.fm_build.specs.Gathering.{all_found}
use Rattle.fm_build.proofs.gathering.find_applied.Goals as goal

pub returns-in-Some : goal.returns-in-Some
returns-in-Some c =
    sym (application_found c.args.bank.now.terms c.args.symbol (all_there (all_found c.args.args.now)) c.in-Some.args.items c.as_slice.result.now _ (sym c.in_ok-all_there.ensures ∙ ap (option_map (λ v. numbers v.items)) c.in-Some.is) c.as_slice.ensures.value c.find.ensures)
