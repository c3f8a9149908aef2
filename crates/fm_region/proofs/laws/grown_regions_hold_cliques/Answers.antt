use Rattle.std.proofs.Common.{length, arith}
use Rattle.fm_bank.specs.Regions.{grown_regions, regions_at}
use Rattle.fm_region.proofs.Cliques.{in_one_region}
use Rattle.fm_region.proofs.Covering.{grown_large}
use Rattle.fm_region.proofs.Ends.{grown_closed, regions_closed, regions_cover}
use Rattle.fm_region.proofs.laws.grown_regions_hold_cliques.Goals as goal

pub returns-clause-closed : goal.returns-clause-closed
returns-clause-closed c = λ apart classes k distinct. (grown_closed apart classes k distinct (length (regions_at apart classes k)) (regions_at apart classes k) (regions_cover apart classes k) (regions_closed apart classes k)).1

pub returns-clause-cliques : goal.returns-clause-cliques
returns-clause-cliques c = λ apart classes k distinct clique is size.
    let g = grown_closed apart classes k distinct (length (regions_at apart classes k)) (regions_at apart classes k) (regions_cover apart classes k) (regions_closed apart classes k) in
    in_one_region apart classes k (grown_regions apart classes k) g.0 g.1 clique is size

pub returns-clause-large : goal.returns-clause-large
returns-clause-large c = λ apart classes k distinct more. grown_large apart classes k distinct more (length (regions_at apart classes k)) (regions_at apart classes k) (omega arith) (regions_cover apart classes k)
