use Rattle.std.proofs.Common.{◌+◌, take, ap, ◌∙◌}
use Rattle.fm_bank.specs.Regions.{first_large}
use Rattle.fm_region.proofs.Picked.{clique_picked, fits_picked, split_picked}
use Rattle.fm_region.proofs.picking.pick_of.Goals as goal

pub returns-in-Fits : goal.returns-in-Fits
returns-in-Fits c = fits_picked c.args.graph.now c.args.sort c.args.k c.in_ok-source.source c.in_ok-source.ensures c.in_ok-regions.regions c.in_ok-regions.found c.in_ok-regions.ensures c.in-Fits.is

pub returns-in-Clique : goal.returns-in-Clique
returns-in-Clique c = clique_picked c.args.graph.now c.args.sort c.args.k c.in_ok-source.source c.in_ok-source.ensures c.in_ok-regions.regions c.in_ok-regions.found c.in_ok-regions.ensures c.in-Clique.terms c.in-Clique.is

pub returns : goal.returns
returns c = split_picked c.args.graph.now c.args.sort c.args.k c.in_ok-source.source c.in_ok-source.ensures c.in_ok-regions.regions c.in_ok-regions.found c.in_ok-regions.ensures c.in-Split.a c.in-Split.b c.in-Split.is c.in_ok-terms-in-Split.terms
    (c.in_ok-terms-in-Split.ensures ∙ c.front-test.ensures ∙ ap (λ xs. take (c.args.k + 1) xs) (c.large_region.ensures ∙ ap (first_large c.args.k) c.as_slice.ensures))
