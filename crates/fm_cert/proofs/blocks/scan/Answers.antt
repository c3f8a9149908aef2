use Rattle.std.proofs.Common.{sym, subst}
use Rattle.std.specs.Prelude.{IfNone, IfSome}
use Rattle.fm_cert.specs.Rows.{HasNoRow, IsFirstRow}
use Rattle.fm_cert.proofs.Scans.{scan_end, scan_next, scan_none, scan_row}
use Rattle.fm_cert.proofs.blocks.scan.Goals as goal

pub returns-in_default-clause-outside : goal.returns-in_default-clause-outside
returns-in_default-clause-outside c = λ text e. scan_none text c.args.behind.now c.loop-rest.rest.now c.loop-rest.place c.loop-rest.line e c.loop-rest.invariant c.loop-rest-test.ensures (subst (λ o. IfNone o (HasNoRow c.loop-rest.rest.now)) c.in_default.is c.in_ok-row.ensures.none)

pub returns-in_default-place_after-clause-outside : goal.returns-in_default-place_after-clause-outside
returns-in_default-place_after-clause-outside c = λ text e. scan_row text c.args.behind.now c.loop-rest.rest.now c.in-Some.more.now c.loop-rest.place c.in-Some.row c.loop-rest.line e c.loop-rest.invariant (subst (λ o. IfSome o (λ p. IsFirstRow c.loop-rest.rest.now p.0 p.1.now)) c.in-Some.is c.in_ok-row.ensures.found) c.in_default-place_after.ensures

pub loop-rest-preserved : goal.loop-rest-preserved
loop-rest-preserved c = scan_next c.args.behind.now c.loop-rest.rest.now c.in-Some.more.now c.loop-rest.place c.in-Some-place_after.next c.in-Some.row c.loop-rest.line c.loop-rest.invariant (subst (λ o. IfSome o (λ p. IsFirstRow c.loop-rest.rest.now p.0 p.1.now)) c.in-Some.is c.in_ok-row.ensures.found) c.in-Some-place_after.ensures

pub returns-then-may_end-clause-inside : goal.returns-then-may_end-clause-inside
returns-then-may_end-clause-inside c = λ text e. scan_end text c.args.behind.now c.loop-rest.rest.now c.loop-rest.place c.loop-rest.line e c.loop-rest.invariant c.loop-rest-test.ensures (sym c.if-may_end.ensures)
