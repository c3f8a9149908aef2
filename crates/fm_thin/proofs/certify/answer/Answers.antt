use Rattle.std.proofs.Common.{◌≡◌, ℕ, sym, subst}
use Rattle.fm_thin.specs.Certified.{answering_block}
use Rattle.fm_thin.proofs.Goodness.{answers}
use Rattle.fm_thin.proofs.certify.answer.Goals as goal

pub returns : goal.returns
returns c =
    let made = subst (λ (n : ℕ). c.in_ok-block.block ≡ answering_block c.args.number c.args.sig.now.sorts n c.falsity-clause.result) c.len.ensures c.in_ok-block.ensures in
    let a = answers c.args.sig.now c.args.assertions.now c.args.number c.falsity-clause.result c.in_ok-block.block c.requires (sym c.falsity-clause.ensures) made in
    record { number = a.number_is; good = a.good; holds = a.holds; decided = a.decides; printable = a.printable }
