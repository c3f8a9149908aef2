use Rattle.std.proofs.Common.{ap, ◌∙◌}
use Rattle.std.specs.Option.{option_map}
use Rattle.fm_bank.specs.Instances.{numbers_of}
use Rattle.fm_bank.specs.Terms.{numbers}
use Rattle.fm_bank.proofs.Lookups.{application_found}
use Rattle.fm_bank.proofs.finding.+finding.Goals as goal

pub find_application-returns-in-Some : goal.find_application-returns-in-Some
find_application-returns-in-Some t c =
    application_found c.args.terms.now.keys c.args.symbol (numbers_of c.args.args.now c.args.terms.now.keys (numbers c.args.subst.now)) c.in-Some.args.items c.as_slice.result.now _ (c.in_ok-find_all.ensures ∙ ap (option_map (λ ts. numbers ts.items)) c.in-Some.is) c.as_slice.ensures c.find_term.ensures
