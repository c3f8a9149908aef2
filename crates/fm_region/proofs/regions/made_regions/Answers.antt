use Rattle.std.proofs.Common.{[], ◌∷◌, List, map, ap, ◌∙◌, arith}
use Rattle.fm_base.specs.declared.ids.TermId.{TermId}
use Rattle.fm_bank.specs.Terms.{numbers}
use Rattle.fm_region.proofs.Making.{made_alone}
use Rattle.fm_region.proofs.regions.made_regions.Goals as goal

pub returns-then-len-source : goal.returns-then-len-source
returns-then-len-source c =
    let s = c.args.source.now in
    made_alone s.k s.terms.items s.pairs.items c.in_ok-regions.regions (omega (arith, c.if-len-source.true, c.len.ensures, s.terms.ok.0)) (c.in_ok-regions.ensures ∙ ap (λ (ts : List TermId). map (λ c. c ∷ []) (numbers ts)) c.as_slice.ensures.value)
