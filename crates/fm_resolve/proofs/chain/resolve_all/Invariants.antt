use Rattle.std.proofs.Common.{drop}
use Rattle.std.specs.Prelude.{◌↔◌}
use Rattle.fm_cert.specs.Lines.{Chain, Clause}
use Rattle.fm_resolve.specs.Marks.{Covers, SameMarks, members}
use Rattle.fm_resolve.specs.Names.{AreNumbered, HasMarks, all_names, names}
use Rattle.fm_resolve.proofs.chain.resolve_all.Given as goal

abbrev pub invariant-loop-step : goal.invariant-loop-step
invariant-loop-step l = record {
  same : (r : Clause) → Chain (all_names l.atoms.keys l.clauses) (names l.atoms.keys (members l.fn.marks)) l.steps r ↔ Chain (all_names l.atoms.keys l.clauses) (names l.atoms.keys (members l.marks)) (drop l.step-index l.steps) r;
  numbered : AreNumbered l.atoms.keys (members l.marks);
  marks : HasMarks l.marks l.atoms.keys;
  covers : Covers l.marks;
  size : SameMarks l.fn.marks l.marks;
}
