use Rattle.std.proofs.Common.{ap, ◌∙◌}
use Rattle.fm_resolve.specs.Names.{all_names, names}
use Rattle.fm_resolve.specs.Stores.{clauses_in}
use Rattle.fm_resolve.proofs.NameLaws.{all_names_kept, on_pushed}
use Rattle.fm_resolve.proofs.store.Store.push.Goals as goal

pub returns-clause-clauses : goal.returns-clause-clauses
returns-clause-clauses c =
    let old = c.args.self.now in
    let mid = c.number_all.new.self in
    let done = c.in_ok-numbers.ensures in
    let here = ap (all_names mid.atoms.keys) c.number_all.ensures.clauses ∙ all_names_kept old.atoms.keys mid.atoms.keys old.clauses.items done.front c.requires.ready.numbered in
    on_pushed c.put.result (clauses_in c.put.new.self) (clauses_in old) (clauses_in mid) _ c.args.lits.now here (ap (names mid.atoms.keys) c.as_slice.ensures.value ∙ done.named) c.put.ensures.clauses
