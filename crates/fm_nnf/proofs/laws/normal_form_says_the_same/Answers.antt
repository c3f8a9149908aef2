use Rattle.fm_nnf.proofs.Norms.{norm, norm_within}
use Rattle.fm_nnf.proofs.laws.normal_form_says_the_same.Goals as goal

pub returns : goal.returns
returns c = record { same = norm; within = norm_within }
