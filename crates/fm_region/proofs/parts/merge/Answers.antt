use Rattle.std.proofs.Common.{◌≡◌, ℕ, ◌<◌, List, get_or, length, map, min, sym, subst, ap, ◌∙◌}
use Rattle.std.specs.Prelude.{slice_set}
use Rattle.std.specs.List.{remove}
use Rattle.fm_region.specs.Parts.{AreKept, no_part, part_at, put_joined, regions_of, sum_at}
use Rattle.fm_bank.specs.Regions.{joined}
use Rattle.fm_region.specs.Rows.{apart_in}
use Rattle.fm_region.specs.declared.parts.Part.{Part}
use Rattle.fm_region.proofs.Keeping.{put_kept, put_regions}
use Rattle.fm_region.proofs.Searching.{get_or_any}
use Rattle.fm_region.proofs.parts.merge.Goals as goal

at : (all parts : List Part) (i : ℕ) (p : Part) → i < length parts → all ≡ parts → p ≡ get_or all i p → p ≡ part_at parts i
at all parts i p lt e h = h ∙ (ap (λ (ps : List Part). get_or ps i p) e ∙ get_or_any parts i p no_part lt)

pub returns-clause-joined : goal.returns-clause-joined
returns-clause-joined c =
    let parts = c.args.parts.now in
    let i = c.args.i in
    let j = c.args.j in
    let classes = c.args.classes.now in
    let a : c.index-all-i.result ≡ part_at parts i = at c.as_slice-all.result.now parts i c.index-all-i.result c.requires.i c.as_slice-all.ensures c.index-all-i.is in
    let b : c.index-all-j.result ≡ part_at parts j = at c.as_slice-all.result.now parts j c.index-all-j.result c.requires.j c.as_slice-all.ensures c.index-all-j.is in
    let is : c.in_ok-both.both.classes ≡ joined classes (part_at parts i).classes (part_at parts j).classes =
    c.in_ok-both.ensures.classes ∙ (ap (λ (p : Part). joined classes p.classes c.index-all-j.result.classes) a ∙ ap (λ (p : Part). joined classes (part_at parts i).classes p.classes) b) in
    let put : c.remove.new.self ≡ put_joined parts i j c.in_ok-both.both = c.remove.ensures.rest ∙ (ap (λ (ps : List Part). remove ps c.max.result) c.set.ensures ∙ (ap (λ (n : ℕ). remove (slice_set parts n c.in_ok-both.both) c.max.result) c.min.ensures ∙ ap (λ (n : ℕ). remove (slice_set parts (min i j) c.in_ok-both.both) n) c.max.ensures)) in
    ap regions_of put ∙ put_regions (apart_in c.args._near.now) classes c.requires.table parts c.requires.kept i j c.requires.i c.requires.j c.requires.differ c.in_ok-both.both is

pub returns-clause-kept : goal.returns-clause-kept
returns-clause-kept c =
    let parts = c.args.parts.now in
    let i = c.args.i in
    let j = c.args.j in
    let classes = c.args.classes.now in
    let a : c.index-all-i.result ≡ part_at parts i = at c.as_slice-all.result.now parts i c.index-all-i.result c.requires.i c.as_slice-all.ensures c.index-all-i.is in
    let b : c.index-all-j.result ≡ part_at parts j = at c.as_slice-all.result.now parts j c.index-all-j.result c.requires.j c.as_slice-all.ensures c.index-all-j.is in
    let is : c.in_ok-both.both.classes ≡ joined classes (part_at parts i).classes (part_at parts j).classes =
    c.in_ok-both.ensures.classes ∙ (ap (λ (p : Part). joined classes p.classes c.index-all-j.result.classes) a ∙ ap (λ (p : Part). joined classes (part_at parts i).classes p.classes) b) in
    let sums : c.in_ok-both.both.inside ≡ map (sum_at (part_at parts i).inside (part_at parts j).inside) classes =
    c.in_ok-both.ensures.inside ∙ (ap (λ (p : Part). map (sum_at p.inside c.index-all-j.result.inside) classes) a ∙ ap (λ (p : Part). map (sum_at (part_at parts i).inside p.inside) classes) b) in
    let put : c.remove.new.self ≡ put_joined parts i j c.in_ok-both.both = c.remove.ensures.rest ∙ (ap (λ (ps : List Part). remove ps c.max.result) c.set.ensures ∙ (ap (λ (n : ℕ). remove (slice_set parts n c.in_ok-both.both) c.max.result) c.min.ensures ∙ ap (λ (n : ℕ). remove (slice_set parts (min i j) c.in_ok-both.both) n) c.max.ensures)) in
    subst (AreKept (apart_in c.args._near.now) classes) (sym put) (put_kept (apart_in c.args._near.now) classes c.requires.table parts c.requires.kept i j c.requires.i c.requires.j c.requires.differ c.in_ok-both.both is sums)
