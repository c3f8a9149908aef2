use Rattle.std.proofs.Common.{◌≡◌, ◌+◌, drop}
use Rattle.fm_cert.specs.Lines.{AreGoodLines, Made, Problem}
use Rattle.fm_blocks.specs.Faults.{IsFirstBad}
use Rattle.fm_blocks.specs.States.{IsOver, made_by}
use Rattle.fm_resolve.specs.Stores.{IsReady}
use Rattle.fm_blocks.specs.declared.verdict.Fault.{Fault}
use Rattle.fm_blocks.proofs.blocks.check_lines.Given as goal

abbrev pub invariant-loop-line : goal.invariant-loop-line
invariant-loop-line l = record {
  good : (p : Problem) → IsOver p l.fn.state l.table → (end' : Made) → AreGoodLines p (made_by l.state) (drop l.line-index l.lines) end' → AreGoodLines p (made_by l.fn.state) l.lines end';
  bad : (p : Problem) → IsOver p l.fn.state l.table → (f : Fault) → IsFirstBad p (made_by l.state) l.number (drop l.line-index l.lines) f → IsFirstBad p (made_by l.fn.state) l.at l.lines f;
  sig : l.state.bank.sig ≡ l.fn.state.bank.sig;
  ready : IsReady l.state.store;
  number : l.number ≡ l.at + l.line-index;
}
