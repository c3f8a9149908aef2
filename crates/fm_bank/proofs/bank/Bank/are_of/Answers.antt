use Rattle.std.proofs.Common.{map, ◌∙◌}
use Rattle.std.proofs.lemmas.List.{length-map}
use Rattle.fm_bank.proofs.Lengths.{types_differ}
use Rattle.fm_bank.proofs.bank.Bank.are_of.Goals as goal

pub returns-then-terms-kinds : goal.returns-then-terms-kinds
returns-then-terms-kinds g c =
    types_differ c.args.self.now.sig c.args.self.now.terms c.args.terms.now (map g.K.Kind.type_of c.args.kinds.now) (λ e. c.if-terms-kinds.true (e ∙ length-map c.args.kinds.now g.K.Kind.type_of))
