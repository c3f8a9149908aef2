use Rattle.std.proofs.Common.{◌+◌, length}
use Rattle.fm_cert.specs.Claims.{IsGoodBlock}
use Rattle.fm_blocks.specs.Endings.{EndsBadly, EndsWell}
use Rattle.fm_blocks.specs.Faults.{IsBlockFault}
use Rattle.fm_blocks.specs.States.{IsOver, made_by}
use Rattle.fm_problem.specs.Tabled.{with_table}
use Rattle.fm_resolve.specs.Stores.{clauses_in}
use Rattle.fm_blocks.proofs.StateLaws.{bad_ending, good_block, none_so, some_so}
use Rattle.fm_blocks.proofs.blocks.check_block.Goals as goal

pub returns-clause-good : goal.returns-clause-good
returns-clause-good c =
    let p = with_table c.args.sig.now c.args.assertions.now c.args.table.now in
    let over : IsOver p c.in_ok-state.state c.as_slice.result.now = record { symbols = c.in_ok-state.ensures.sig; table = c.as_slice.ensures } in
    let good = (rw c.in_default.is at c.in_ok-fault.ensures.good) p over in
    none_so (EndsWell c.args.sig.now c.args.assertions.now (clauses_in c.check_lines.new.state.store) c.args.block.now.claim) (IsGoodBlock p c.args.block.now) c.in_ok-ended.ended (λ well. good_block p c.args.block.now (made_by c.in_ok-state.state) (made_by c.check_lines.new.state) c.as_slice-lines.result.now c.in_ok-state.ensures.nothing c.as_slice-lines.ensures good (well c.args.table.now.sig c.args.table.now.clauses)) c.in_ok-ended.ensures.good

pub returns-clause-bad : goal.returns-clause-bad
returns-clause-bad c =
    let p = with_table c.args.sig.now c.args.assertions.now c.args.table.now in
    let over : IsOver p c.in_ok-state.state c.as_slice.result.now = record { symbols = c.in_ok-state.ensures.sig; table = c.as_slice.ensures } in
    let good = (rw c.in_default.is at c.in_ok-fault.ensures.good) p over in
    some_so (λ f. EndsBadly c.args.sig.now c.args.assertions.now (clauses_in c.check_lines.new.state.store) (c.args.at + 1 + length c.as_slice-lines.result.now) c.args.block.now.claim f) (λ f. IsBlockFault p c.args.at c.args.block.now f) c.in_ok-ended.ended (λ f badly. bad_ending p c.args.at c.args.block.now (made_by c.in_ok-state.state) (made_by c.check_lines.new.state) c.as_slice-lines.result.now f c.in_ok-state.ensures.nothing c.as_slice-lines.ensures good (badly c.args.table.now.sig c.args.table.now.clauses)) c.in_ok-ended.ensures.bad
