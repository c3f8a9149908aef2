use Rattle.fm_cert.proofs.blocks.read_all.Goals as goal

pub returns-in-Err-clause-fault : goal.returns-in-Err-clause-fault
returns-in-Err-clause-fault c = λ at e text is. c.in-Err.ensures.fault at e text c.loop-alloc.blocks.items (c.loop-alloc.invariant text is)
