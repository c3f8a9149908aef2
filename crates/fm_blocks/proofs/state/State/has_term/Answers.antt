use Rattle.std.proofs.Common.{◌∙◌, ap}
use Rattle.std.specs.Option.{is_some}
use Rattle.fm_bank.specs.Terms.{application, is_same}
use Rattle.fm_blocks.proofs.StateLaws.{found_any, mapped_some}
use Rattle.fm_blocks.proofs.state.State.has_term.Goals as goal

pub returns : goal.returns
returns c = c.is_some.ensures ∙ (mapped_some (λ t. t.0) c.find.result ∙ (ap is_some c.find.ensures ∙ found_any (is_same (application c.args.symbol c.args.args.now)) c.args.self.now.bank.terms))
