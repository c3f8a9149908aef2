use Rattle.std.proofs.Common.{drop, length}
use Rattle.fm_arena.specs.Weights.{weighed_of}
use Rattle.fm_arena.specs.Passes.{Gains, parts_gain}
use Rattle.fm_arena.specs.declared.passes.Pass.{Pass}
use Rattle.fm_arena.proofs.passes.Pass.add_parts.Given as goal

abbrev pub invariant-loop-part : goal.invariant-loop-part
invariant-loop-part l = (p : Pass) → Gains (weighed_of l.before) (length l.before) l.self p (parts_gain (weighed_of l.before) l.reads (drop l.part-index l.parts)) → Gains (weighed_of l.before) (length l.before) l.fn.self p (parts_gain (weighed_of l.before) l.reads l.parts)
