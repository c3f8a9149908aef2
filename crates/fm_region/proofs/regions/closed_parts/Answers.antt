use Rattle.std.proofs.Common.{sym, subst, ap, ◌∙◌}
use Rattle.fm_region.specs.Parts.{AreKept, regions_of}
use Rattle.fm_bank.specs.Regions.{closed}
use Rattle.fm_region.specs.Rows.{apart_in}
use Rattle.fm_region.proofs.Keeping.{alone_kept, alone_regions}
use Rattle.fm_region.proofs.regions.closed_parts.Goals as goal

pub close-requires-clause-kept : goal.close-requires-clause-kept
close-requires-clause-kept c = subst (AreKept (apart_in c.args.near.now) c.args.classes.now) (sym c.in_ok-parts.ensures) (alone_kept (apart_in c.args.near.now) c.args.classes.now c.requires.table)

pub returns-clause-regions : goal.returns-clause-regions
returns-clause-regions c =
    let apart = apart_in c.args.near.now in
    let classes = c.args.classes.now in
    c.in_ok-close.ensures.closed ∙ ap (closed apart classes c.args.k) (ap regions_of c.in_ok-parts.ensures ∙ alone_regions apart classes classes)
