use Rattle.std.proofs.Common.{[]}
use Rattle.fm_nnf.proofs.Coincidence.{coincides}
use Rattle.fm_nnf.proofs.Forming.{nnf_local}
use Rattle.fm_nnf.proofs.Joined.{interprets_more}
use Rattle.fm_nnf.proofs.laws.expansions_keep_truth.Goals as goal

pub returns : goal.returns
returns c = record {
  interprets = λ sig ranks m is e. interprets_more sig m.size m.at e.at ranks is e.agrees e.fits;
  formulas = λ sig f m at closed agree. (coincides sig f [] closed).local m.size m.at at [] agree;
  forms = λ bound sorts f m at within agree. nnf_local bound sorts f within m.size m.at at [] agree;
}
