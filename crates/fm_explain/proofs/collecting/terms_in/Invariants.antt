use Rattle.std.proofs.Common.{◌≡◌, take}
use Rattle.std.specs.List.{filter_map}
use Rattle.fm_bank.specs.Terms.{numbers}
use Rattle.fm_explain.specs.Meant.{term_at}
use Rattle.fm_explain.proofs.collecting.terms_in.Given as goal

abbrev pub invariant-loop-node : goal.invariant-loop-node
invariant-loop-node l = numbers l.terms.items ≡ filter_map term_at (take l.node-index l.nodes)
