use Rattle.std.proofs.Common.{sym, subst}
use Rattle.std.specs.Prelude.{IfNone, IfSome}
use Rattle.fm_cert.specs.Reading.{LeavesFrom, rows_so_far}
use Rattle.fm_cert.specs.Rows.{HasNoRow, IsFirstRow}
use Rattle.fm_cert.proofs.BlockReads.{same_line}
use Rattle.fm_cert.proofs.PartReads.{part_block, part_next, part_row, start_none, start_row}
use Rattle.fm_cert.proofs.reader.take_block.Goals as goal

pub returns-in_default-clause-fault : goal.returns-in_default-clause-fault
returns-in_default-clause-fault c = λ at e.
    let none = subst (λ o. IfNone o (HasNoRow c.args.text.now)) c.in_default.is c.in_ok-row.ensures.none in
    subst (λ l. LeavesFrom c.args.text.now c.args.from l) (same_line c.outside.result c.args.from at c.outside.ensures e) (start_none c.args.text.now c.args.from none c.requires.some)

pub returns-in_default-begin-clause-fault : goal.returns-in_default-begin-clause-fault
returns-in_default-begin-clause-fault c = λ at e.
    let first : IsFirstRow c.args.text.now c.in-Some.row c.in-Some.behind.now = subst (λ o. IfSome o (λ p. IsFirstRow c.args.text.now p.0 p.1.now)) c.in-Some.is c.in_ok-row.ensures.found in
    subst (λ l. LeavesFrom c.args.text.now c.args.from l) (same_line c.outside-in_default-begin.result c.args.from at c.outside-in_default-begin.ensures e) (start_row c.args.text.now c.args.from c.in-Some.row c.in-Some.behind.now first c.in_default-begin.ensures.none)

pub returns-then-not-branch-clause-fault : goal.returns-then-not-branch-clause-fault
returns-then-not-branch-clause-fault c = λ at e.
    let r = c.loop-alloc.reading in
    let first : IsFirstRow c.loop-alloc.rest.now c.in-Some-2.row c.in-Some-2.more.now = subst (λ o. IfSome o (λ p. IsFirstRow c.loop-alloc.rest.now p.0 p.1.now)) c.in-Some-2.is c.in_ok-row-2.ensures.found in
    let left = part_row c.args.text.now c.loop-alloc.rest.now (rows_so_far r) r.place c.args.from c.loop-alloc.line c.in-Some-2.row c.in-Some-2.more.now c.loop-alloc.invariant (sym c.loop-alloc-test.ensures) first (c.in_ok-add.ensures.refused c.if-not-branch.true) in
    subst (λ l. LeavesFrom c.args.text.now c.args.from l) (same_line c.outside-then-not-branch.result c.loop-alloc.line at c.outside-then-not-branch.ensures e) left

pub loop-alloc-preserved : goal.loop-alloc-preserved
loop-alloc-preserved c =
    let r = c.loop-alloc.reading in
    let first : IsFirstRow c.loop-alloc.rest.now c.in-Some-2.row c.in-Some-2.more.now = subst (λ o. IfSome o (λ p. IsFirstRow c.loop-alloc.rest.now p.0 p.1.now)) c.in-Some-2.is c.in_ok-row-2.ensures.found in
    let taken = c.in_ok-add.ensures.taken c.if-not-branch.false in
    part_next c.args.text.now c.loop-alloc.rest.now c.in-Some-2.more.now (rows_so_far r) (rows_so_far c.add.new.self) r.place c.add.new.self.place c.in-Some-2.row c.args.from c.loop-alloc.line c.loop-alloc.invariant first taken.next taken.rows

pub returns-clause-block : goal.returns-clause-block
returns-clause-block c =
    let r = c.loop-alloc.reading in
    part_block c.args.text.now c.loop-alloc.rest.now (rows_so_far r) r.place c.args.from c.loop-alloc.line c.in_ok-block.block c.loop-alloc.invariant (sym c.loop-alloc-test.ensures) c.in_ok-block.ensures
