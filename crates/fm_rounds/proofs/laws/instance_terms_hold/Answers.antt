use Rattle.fm_rounds.proofs.Subterms.{instance_terms_hold, start_terms_hold}
use Rattle.fm_rounds.proofs.laws.instance_terms_hold.Goals as goal

pub returns : goal.returns
returns c = record { instance = instance_terms_hold; start = start_terms_hold }
