use Rattle.fm_nnf.proofs.Lifts.{lifting, lifting_ready}
use Rattle.fm_nnf.proofs.laws.lifting_says_the_same.Goals as goal

pub returns : goal.returns
returns c = record { same = lifting; ready = lifting_ready }
