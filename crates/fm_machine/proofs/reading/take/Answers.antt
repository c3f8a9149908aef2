use Rattle.std.proofs.Common.{sym, subst}
use Rattle.fm_steps.specs.Facts.{AtomsAreKnown}
use Rattle.fm_machine.proofs.reading.take.Goals as goal

pub settle-requires-clause-known : goal.settle-requires-clause-known
settle-requires-clause-known c =
    let k = c.requires.known in
    subst AtomsAreKnown (sym c.in_ok-read_on.ensures.state) (record { trail = k.trail; clauses = k.clauses })
