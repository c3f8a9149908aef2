use Rattle.std.proofs.Common.{ℕ, List, sym, subst, ap, ◌∙◌}
use Rattle.fm_bank.specs.Regions.{Cover, grown}
use Rattle.fm_region.specs.Rows.{apart_in}
use Rattle.fm_region.proofs.Ends.{regions_cover}
use Rattle.fm_region.proofs.regions.grown_parts.Goals as goal

pub grow-requires-clause-cover : goal.grow-requires-clause-cover
grow-requires-clause-cover c = subst (λ (rs : List (List ℕ)). Cover rs c.args.classes.now) (sym c.in_ok-parts.ensures.regions) (regions_cover (apart_in c.args.near.now) c.args.classes.now c.args.k)

pub returns : goal.returns
returns c = c.in_ok-grow.ensures.grown ∙ ap (grown (apart_in c.args.near.now) c.args.classes.now c.args.k) c.in_ok-parts.ensures.regions
