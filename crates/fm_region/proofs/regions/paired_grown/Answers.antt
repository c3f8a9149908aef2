use Rattle.std.proofs.Common.{◌≡◌, ℕ, ◌<◌, ◌^◌, List, Bool, length, map, sym, ap, subst, ◌∙◌}
use Rattle.std.specs.List.{All, range_with_len}
use Rattle.std.proofs.lemmas.List.{length-map}
use Rattle.fm_base.specs.declared.ids.TermId.{TermId}
use Rattle.fm_bank.specs.Terms.{numbers}
use Rattle.fm_bank.specs.Regions.{grown_regions}
use Rattle.fm_cells.specs.Ascending.{IsAscending}
use Rattle.fm_region.specs.Answers.{IsFoundIn}
use Rattle.fm_region.specs.Sources.{AreGrownFrom, Parts, parts}
use Rattle.fm_region.specs.Parts.{AreDegrees, IsTable, regions_of}
use Rattle.fm_region.specs.Rows.{AreRowsBy, apart_in, number_at}
use Rattle.fm_region.proofs.Keeping.{degrees_are}
use Rattle.fm_region.proofs.Making.{is_table, grown_paired}
use Rattle.fm_region.proofs.regions.paired_grown.Goals as goal

pub grown_parts-requires-clause-table : goal.grown_parts-requires-clause-table
grown_parts-requires-clause-table c =
    let terms = c.as_slice-terms.result.now in
    let near = c.as_slice-near.result.now in
    let classes = c.as_slice-classes.result.now in
    let are : AreRowsBy (length terms) c.as_slice.result.now near = subst (AreRowsBy (length terms) c.as_slice.result.now) (sym c.as_slice-near.ensures.value) c.in_ok-table.ensures in
    let table : IsTable (apart_in near) classes = is_table (length terms) c.as_slice.result.now near are classes (c.as_slice-classes.ensures.value ∙ c.in_ok-list.ensures.places) (subst (λ (cs : List ℕ). length cs < 2 ^ 64) (sym c.as_slice-classes.ensures.value) c.in_ok-list.ensures.few) in
    table

pub grown_parts-requires-clause-degrees : goal.grown_parts-requires-clause-degrees
grown_parts-requires-clause-degrees c =
    let terms = c.as_slice-terms.result.now in
    let near = c.as_slice-near.result.now in
    let classes = c.as_slice-classes.result.now in
    let are : AreRowsBy (length terms) c.as_slice.result.now near = subst (AreRowsBy (length terms) c.as_slice.result.now) (sym c.as_slice-near.ensures.value) c.in_ok-table.ensures in
    let table : IsTable (apart_in near) classes = is_table (length terms) c.as_slice.result.now near are classes (c.as_slice-classes.ensures.value ∙ c.in_ok-list.ensures.places) (subst (λ (cs : List ℕ). length cs < 2 ^ 64) (sym c.as_slice-classes.ensures.value) c.in_ok-list.ensures.few) in
    subst (AreDegrees (apart_in near) classes) (sym (c.as_slice-2.ensures ∙ c.in_ok-row_sums.ensures)) (degrees_are (apart_in near) classes table)

pub returns : goal.returns
returns c =
    let s = c.args.source.now in
    let terms = c.as_slice-terms.result.now in
    let near = c.as_slice-near.result.now in
    let classes = c.as_slice-classes.result.now in
    let are : AreRowsBy (length terms) c.as_slice.result.now near = subst (AreRowsBy (length terms) c.as_slice.result.now) (sym c.as_slice-near.ensures.value) c.in_ok-table.ensures in
    let places : classes ≡ range_with_len 0 (length (numbers terms)) = c.as_slice-classes.ensures.value ∙ (c.in_ok-list.ensures.places ∙ ap (range_with_len 0) (sym (length-map terms (λ (t : TermId). t.0)))) in
    let up = subst IsAscending (sym c.as_slice-terms.ensures.value) c.requires.ascending in
    let from : (s.k, (terms, c.as_slice.result.now)) ≡ parts s = λ i. (s.k, (c.as_slice-terms.ensures.value i, c.as_slice.ensures.value i)) in
    let rs = grown_regions (apart_in near) (range_with_len 0 (length (numbers terms))) s.k in
    let by_place = c.in_ok-parts.ensures ∙ ap (λ (cs : List ℕ). grown_regions (apart_in near) cs s.k) places in
    let is = c.in_ok-regions.ensures ∙ ap (map (map (number_at (numbers terms)))) (ap regions_of c.as_slice-4.ensures ∙ by_place) in
    let told : regions_of c.as_slice-3.result.now ≡ rs = ap regions_of c.as_slice-3.ensures ∙ by_place in
    let found = subst (λ (xs : List (List ℕ)). IsFoundIn (apart_in near) (numbers terms) s.k xs c.in_ok-found.found) told c.in_ok-found.ensures in
    subst (λ (p : Parts). AreGrownFrom p c.in_ok-regions.regions c.in_ok-found.found) from (grown_paired s.k terms c.as_slice.result.now near c.in_ok-regions.regions c.in_ok-found.found up are is found)
