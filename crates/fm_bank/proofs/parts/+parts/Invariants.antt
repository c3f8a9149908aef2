use Rattle.std.proofs.Common.{◌≡◌, drop}
use Rattle.fm_bank.specs.GroundTerms.{terms_ground_grown}
use Rattle.fm_bank.specs.Interning.{IsFront}
use Rattle.fm_bank.specs.Terms.{numbers}
use Rattle.fm_bank.proofs.GroundSteps.{joined}
use Rattle.fm_bank.proofs.parts.+parts.Given as goal

-- what the rest adds goes behind what is there, and so do its numbers where all are ground
abbrev pub invariant-put_all-loop-arg : goal.invariant-put_all-loop-arg
invariant-put_all-loop-arg l =
    let rest = terms_ground_grown (drop l.arg-index l.fn.args) l.terms.keys in
    record {
      behind : terms_ground_grown l.fn.args l.fn.terms.keys ≡ (rest.0, joined l.ground (numbers l.ids.items) rest.1);
      front : IsFront l.fn.terms.keys l.terms.keys;
    }
