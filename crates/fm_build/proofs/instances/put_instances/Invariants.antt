use Rattle.std.proofs.Common.{◌≡◌, ◌++◌, drop}
use Rattle.fm_rounds.specs.Failing.{numbered}
use Rattle.fm_build.specs.Instancing.{contents_of}
use Rattle.fm_build.specs.Reached.{pairs_of}
use Rattle.fm_build.proofs.instances.put_instances.Given as goal

-- what the rest has goes behind
abbrev pub invariant-loop-item : goal.invariant-loop-item
invariant-loop-item l = pairs_of l.instances.items ++ contents_of l.clauses l.bank.terms (numbered (drop l.item-index l.added)) ≡ pairs_of l.fn.instances.items ++ contents_of l.clauses l.bank.terms (numbered l.added)
