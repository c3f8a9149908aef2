use Rattle.std.proofs.Common.{◌≡◌, ℕ, List, get_or, ap, ◌∙◌}
use Rattle.std.specs.Prelude.{nat_lt}
use Rattle.std.specs.List.{list_any}
use Rattle.fm_region.specs.Parts.{count_at, no_part, part_at}
use Rattle.fm_region.specs.Rows.{apart_in}
use Rattle.fm_region.specs.declared.parts.Part.{Part}
use Rattle.fm_region.proofs.Keeping.{meets_at}
use Rattle.fm_region.proofs.Searching.{get_or_any}
use Rattle.fm_region.proofs.closing.touch.Goals as goal

pub returns : goal.returns
returns c =
    let parts = c.args.parts.now in
    let i = c.args.i in
    let j = c.args.j in
    let a : get_or parts i c.index-parts-i.result ≡ part_at parts i = get_or_any parts i c.index-parts-i.result no_part c.requires.i in
    let b : get_or parts j c.index-parts-j.result ≡ part_at parts j = get_or_any parts j c.index-parts-j.result no_part c.requires.j in
    let inside : c.as_slice.result.now ≡ (part_at parts i).inside = c.as_slice.ensures ∙ ap (λ (p : Part). p.inside) a in
    let region : c.as_slice-2.result.now ≡ (part_at parts j).classes = c.as_slice-2.ensures ∙ ap (λ (p : Part). p.classes) b in
    c.meets.ensures
    ∙ (ap (λ (ns : List ℕ). list_any (λ d. nat_lt 0 (count_at ns d)) c.as_slice-2.result.now) inside
    ∙ (ap (list_any (λ d. nat_lt 0 (count_at (part_at parts i).inside d))) region
    ∙ meets_at (apart_in c.args._near.now) c.args._classes.now c.requires.table parts c.requires.kept i j))
