use Rattle.std.proofs.Common.{◌≡◌, drop}
use Rattle.fm_bank.specs.Instances.{all_there}
use Rattle.fm_bank.specs.Terms.{numbers}
use Rattle.fm_bank.proofs.Lookups.{behind}
use Rattle.fm_build.specs.Gathering.{all_found}
use Rattle.fm_build.proofs.gathering.all_there.Given as goal

-- what the rest has goes behind what was found
abbrev pub invariant-loop-own : goal.invariant-loop-own
invariant-loop-own l = behind (numbers l.terms.items) (all_there (all_found (drop l.own-index l.owns))) ≡ all_there (all_found l.owns)
