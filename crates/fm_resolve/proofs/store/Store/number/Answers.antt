use Rattle.std.proofs.Common.{arith}
use Rattle.fm_resolve.proofs.NameLaws.{all_kept, found_put, name_by, numbered_by, put_front}
use Rattle.fm_resolve.proofs.store.Store.number.Goals as goal

pub returns-in_ok-grow-clause-named : goal.returns-in_ok-grow-clause-named
returns-in_ok-grow-clause-named c = name_by c.put_atom.new.atoms.keys _ c.args.lit.atom (found_put c.args.self.now.atoms.keys c.put_atom.new.atoms.keys c.args.lit.atom c.in_ok-place.place c.in_ok-place.ensures.keys c.in_ok-place.ensures.place)

pub returns-in_ok-grow-clause-numbered : goal.returns-in_ok-grow-clause-numbered
returns-in_ok-grow-clause-numbered c = numbered_by c.put_atom.new.atoms.keys _ c.args.lit.atom (found_put c.args.self.now.atoms.keys c.put_atom.new.atoms.keys c.args.lit.atom c.in_ok-place.place c.in_ok-place.ensures.keys c.in_ok-place.ensures.place)

pub returns-in_ok-grow-clause-ready : goal.returns-in_ok-grow-clause-ready
returns-in_ok-grow-clause-ready c =
    let count = rw c.if-is_new.true at c.in_ok-place.ensures.count in
    let grown = c.in_ok-grow.ensures in
    record {
      marks = record { positive = omega (arith, grown.positive, count, c.requires.ready.marks.positive); negative = omega (arith, grown.negative, count, c.requires.ready.marks.negative) };
      clean = grown.clean;
      numbered = all_kept c.args.self.now.atoms.keys c.put_atom.new.atoms.keys c.args.self.now.clauses.items (put_front c.args.self.now.atoms.keys c.put_atom.new.atoms.keys c.args.lit.atom c.in_ok-place.ensures.keys) c.requires.ready.numbered;
    }

pub returns-else-is_new-clause-named : goal.returns-else-is_new-clause-named
returns-else-is_new-clause-named c = name_by c.put_atom.new.atoms.keys _ c.args.lit.atom (found_put c.args.self.now.atoms.keys c.put_atom.new.atoms.keys c.args.lit.atom c.in_ok-place.place c.in_ok-place.ensures.keys c.in_ok-place.ensures.place)

pub returns-else-is_new-clause-numbered : goal.returns-else-is_new-clause-numbered
returns-else-is_new-clause-numbered c = numbered_by c.put_atom.new.atoms.keys _ c.args.lit.atom (found_put c.args.self.now.atoms.keys c.put_atom.new.atoms.keys c.args.lit.atom c.in_ok-place.place c.in_ok-place.ensures.keys c.in_ok-place.ensures.place)
