use Rattle.std.proofs.Common.{map, sym, ap, ◌∙◌}
use Rattle.fm_cert.specs.Parts.{row_in}
use Rattle.fm_cert.proofs.FirstRows.{no_row_read, no_row_uncut}
use Rattle.fm_cert.proofs.PartReads.{row_shorter}
use Rattle.fm_cert.proofs.RowLaws.{first_row_takes}
use Rattle.fm_cert.proofs.reader.next_row.Goals as goal

pub returns-in_default-clause-none : goal.returns-in_default-clause-none
returns-in_default-clause-none c = no_row_uncut c.args.text.now c.in_default.ensures

pub returns-in-Some-2-clause-found : goal.returns-in-Some-2-clause-found
returns-in-Some-2-clause-found c =
    let read = c.in_ok-row.ensures ∙ (ap (λ vs. row_in (map (λ s. s.now) vs)) c.as_slice.ensures.value ∙ ap row_in c.in_ok-parts.ensures) in
    first_row_takes c.args.text.now c.in-Some.line.now c.in-Some.more.now c.in-Some-2.row c.in-Some.ensures (sym c.in-Some-2.is ∙ read)

pub returns-clause-none : goal.returns-clause-none
returns-clause-none c =
    let read = c.in_ok-row.ensures ∙ (ap (λ vs. row_in (map (λ s. s.now) vs)) c.as_slice.ensures.value ∙ ap row_in c.in_ok-parts.ensures) in
    no_row_read c.args.text.now c.in-Some.line.now c.in-Some.more.now c.in-Some.ensures (sym c.in-None.is ∙ read)

pub returns-in-Some-2-clause-shorter : goal.returns-in-Some-2-clause-shorter
returns-in-Some-2-clause-shorter c =
    let read = c.in_ok-row.ensures ∙ (ap (λ vs. row_in (map (λ s. s.now) vs)) c.as_slice.ensures.value ∙ ap row_in c.in_ok-parts.ensures) in
    row_shorter c.args.text.now c.in-Some-2.row c.in-Some.more.now (first_row_takes c.args.text.now c.in-Some.line.now c.in-Some.more.now c.in-Some-2.row c.in-Some.ensures (sym c.in-Some-2.is ∙ read))
