use Rattle.std.proofs.Common.{◌≡◌, drop, take, map}
use Rattle.fm_inst.specs.Depths.{IsWithin, literal_depth}
use Rattle.fm_inst.proofs.instances.depths.Given as goal

abbrev pub invariant-loop-lit : goal.invariant-loop-lit
invariant-loop-lit l = record {
  made : l.depths.items ≡ map literal_depth (take l.lit-index l.lits);
  left : IsWithin (drop l.lit-index l.lits) l.limit;
}
