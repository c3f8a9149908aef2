use Rattle.fm_bank.specs.Regions.{regions_at}
use Rattle.fm_region.proofs.Cliques.{in_one_region}
use Rattle.fm_region.proofs.Ends.{regions_closed, regions_cover}
use Rattle.fm_region.proofs.laws.regions_hold_cliques.Goals as goal

pub returns-clause-closed : goal.returns-clause-closed
returns-clause-closed c = λ apart classes k. regions_closed apart classes k

pub returns-clause-cliques : goal.returns-clause-cliques
returns-clause-cliques c = λ apart classes k clique is size. in_one_region apart classes k (regions_at apart classes k) (regions_cover apart classes k) (regions_closed apart classes k) clique is size
