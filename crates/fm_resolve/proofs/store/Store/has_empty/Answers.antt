use Rattle.std.proofs.Common.{sym, ◌∙◌}
use Rattle.fm_resolve.proofs.NameLaws.{none_named, some_empty}
use Rattle.fm_resolve.proofs.store.Store.has_empty.Goals as goal

pub returns-clause-some : goal.returns-clause-some
returns-clause-some c = λ e. some_empty c.args.self.now.atoms.keys c.args.self.now.clauses.items c.find_empty.result (rw c.as_slice.ensures.value at c.find_empty.ensures.some) (sym c.is_some.ensures ∙ e)

pub returns-clause-none : goal.returns-clause-none
returns-clause-none c = λ e h. none_named c.args.self.now.atoms.keys c.args.self.now.clauses.items c.find_empty.result (rw c.as_slice.ensures.value at c.find_empty.ensures.none) (sym c.is_some.ensures ∙ e) h.0 h.1
