use Rattle.std.proofs.Common.{sym, ◌∙◌}
use Rattle.fm_resolve.proofs.AloneLaws.{alone_none, alone_some, nowhere}
use Rattle.fm_resolve.proofs.store.Store.has_alone.Goals as goal

pub returns-in-None-clause-none : goal.returns-in-None-clause-none
returns-in-None-clause-none c = λ _. nowhere c.args.self.now.atoms.keys c.args.self.now.clauses.items c.args.lit c.requires.ready.numbered (rw c.in-None.is at c.find_lit.ensures.none)

pub returns-in-Some-clause-some : goal.returns-in-Some-clause-some
returns-in-Some-clause-some c = λ e. alone_some c.args.self.now.atoms.keys c.args.self.now.clauses.items c.in-Some.number c.args.lit (rw c.in-Some.is at c.find_lit.ensures.named) (sym (rw c.as_slice.ensures.value at c.some_alone.ensures) ∙ e)

pub returns-in-Some-clause-none : goal.returns-in-Some-clause-none
returns-in-Some-clause-none c = λ e. alone_none c.args.self.now.atoms.keys c.args.self.now.clauses.items c.in-Some.number c.args.lit (rw c.in-Some.is at c.find_lit.ensures.named) (rw c.in-Some.is at c.find_lit.ensures.numbered) c.requires.ready.numbered (sym (rw c.as_slice.ensures.value at c.some_alone.ensures) ∙ e)
