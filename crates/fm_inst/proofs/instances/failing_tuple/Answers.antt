use Rattle.std.proofs.Common.{◌≡◌, length, map, ap, sym, subst, ◌∙◌, arith}
use Rattle.std.proofs.lemmas.List.{length-map}
use Rattle.fm_base.specs.Interpretations.{reading_of}
use Rattle.fm_base.specs.declared.ids.SortId.{SortId}
use Rattle.fm_inst.specs.Depths.{literal_depth}
use Rattle.fm_inst.specs.Levels.{AreAtMost}
use Rattle.fm_inst.proofs.Linking.{within_at_most}
use Rattle.fm_rounds.specs.Failing.{sizes_of}
use Rattle.fm_inst.proofs.instances.failing_tuple.Goals as goal

pub levels_of-requires : goal.levels_of-requires
levels_of-requires c =
    let m = reading_of c.args.interp.now in
    let clause = c.args.clause.now in
    let made : c.as_slice-2.result.now ≡ map literal_depth clause.lits = c.as_slice-2.ensures.value ∙ c.in_ok-depths.ensures ∙ ap (map literal_depth) c.as_slice-lits.ensures in
    let items : length c.in_ok-sizes.sizes.items ≡ length clause.vars = ap length (c.in_ok-sizes.ensures ∙ ap (sizes_of m) c.as_slice.ensures) ∙ length-map clause.vars (λ (s : SortId). m.size s.0) in
    let many : c.len-2.result ≡ length clause.vars = omega (arith, c.len-2.ensures, items) in
    subst (λ es. AreAtMost es c.len-2.result) (sym made) (subst (λ n. AreAtMost (map literal_depth clause.lits) n) (sym many) (within_at_most clause.lits (length clause.vars) c.requires.ready.1))
