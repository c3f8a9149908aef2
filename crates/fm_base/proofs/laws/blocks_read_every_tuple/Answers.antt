use Rattle.fm_base.proofs.Quantified.{every_tuple, from_every_tuple, some_tuple, from_some_tuple}
use Rattle.fm_base.proofs.laws.blocks_read_every_tuple.Goals as goal

pub returns : goal.returns
returns c = λ m sorts body env. ((every_tuple m sorts body env, from_every_tuple m sorts body env), (some_tuple m sorts body env, λ h. from_some_tuple m sorts body env h.0 h.1 h.2))
