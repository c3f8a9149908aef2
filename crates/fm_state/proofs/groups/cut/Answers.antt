use Rattle.std.proofs.Common.{ap, sym, ◌∙◌}
use Rattle.std.proofs.lemmas.List.{take-map}
use Rattle.fm_state.specs.Offers.{offer_in, offers_in}
use Rattle.fm_state.proofs.groups.cut.Goals as goal

pub returns : goal.returns
returns c = ap offers_in c.truncate.ensures.items ∙ sym (take-map offer_in c.args.limit c.args.offers.items)
