use Rattle.std.proofs.Common.{◌≡◌, ◌++◌, drop}
use Rattle.fm_build.specs.Gathering.{all_found, all_gathered, all_numbered}
use Rattle.fm_build.proofs.gathering.+gathering.Given as goal

-- what the rest has goes behind
abbrev pub invariant-put_all-loop-arg : goal.invariant-put_all-loop-arg
invariant-put_all-loop-arg l = record {
  numbers : all_found l.owns.items ++ all_numbered (drop l.arg-index l.fn.args) l.fn.bank l.fn.subst ≡ all_numbered l.fn.args l.fn.bank l.fn.subst;
  terms : l.found.items ++ all_gathered (drop l.arg-index l.fn.args) l.fn.bank l.fn.subst ≡ l.fn.found.items ++ all_gathered l.fn.args l.fn.bank l.fn.subst;
}
