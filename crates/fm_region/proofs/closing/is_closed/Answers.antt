use Rattle.std.proofs.Common.{◌≡◌, sym, ap, ◌∙◌}
use Rattle.fm_region.specs.Parts.{no_part, part_at}
use Rattle.fm_bank.specs.Regions.{is_closed_at}
use Rattle.fm_region.specs.Rows.{apart_in}
use Rattle.fm_region.proofs.Keeping.{at_part, outs_at}
use Rattle.fm_region.proofs.Rounds.{closed_by_outs}
use Rattle.fm_region.proofs.Searching.{get_or_any}
use Rattle.fm_region.proofs.closing.is_closed.Goals as goal

pub returns : goal.returns
returns c =
    let apart = apart_in c.args._near.now in
    let classes = c.args._classes.now in
    let parts = c.args.parts.now in
    let i = c.args.i in
    let part : c.index-parts-i.result ≡ part_at parts i = c.index-parts-i.is ∙ get_or_any parts i c.index-parts-i.result no_part c.requires.i in
    closed_by_outs apart classes c.args.k (part_at parts i).classes c.as_slice.result.now c.is_closed_by.result
    (c.as_slice.ensures.value ∙ (c.in_ok-counts.ensures ∙ outs_at apart classes c.requires.table parts c.requires.kept c.args.degrees.now c.requires.degrees i c.index-parts-i.result part))
    c.is_closed_by.ensures
    ∙ ap (is_closed_at apart classes c.args.k) (sym (at_part parts i))
