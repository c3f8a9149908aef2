use Rattle.std.proofs.Common.{sym}
use Rattle.fm_cert.proofs.FirstRows.{header_other, header_takes, header_uncut}
use Rattle.fm_cert.proofs.reader.behind_header.Goals as goal

pub returns-in-None-clause-none : goal.returns-in-None-clause-none
returns-in-None-clause-none c = header_uncut c.args.text.now c.in-None.ensures

pub returns-then-is_header-clause-some : goal.returns-then-is_header-clause-some
returns-then-is_header-clause-some c = header_takes c.args.text.now c.in-Some.line.now c.in-Some.rest.now c.in-Some.ensures (sym c.if-is_header.ensures)

pub returns-else-is_header-clause-none : goal.returns-else-is_header-clause-none
returns-else-is_header-clause-none c = header_other c.args.text.now c.in-Some.line.now c.in-Some.rest.now c.in-Some.ensures (sym c.if-is_header.ensures)
