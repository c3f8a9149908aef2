use Rattle.std.proofs.Common.{◌≡◌, drop}
use Rattle.fm_bank.specs.Interning.{first_places}
use Rattle.fm_steps.specs.Content.{opposites}
use Rattle.fm_readers.specs.Graphs.{named}
use Rattle.fm_readers.proofs.shown.put_opposites.Given as goal

abbrev pub invariant-loop-lit : goal.invariant-loop-lit
invariant-loop-lit l = first_places l.lits.keys (opposites (named l.bank.atoms (drop l.lit-index l.explained))) ≡ first_places l.fn.lits.keys (opposites (named l.bank.atoms l.explained))
