use Rattle.fm_region.proofs.Pairing.{found_place}
use Rattle.fm_region.proofs.rows.place_of.Goals as goal

pub returns : goal.returns
returns c = found_place c.args.graph.now c.args._sort c.args.terms.now c.requires.oldest c.args.term c.oldest_of-oldest.result c.oldest_of-oldest.ensures c.find.result c.find.ensures
