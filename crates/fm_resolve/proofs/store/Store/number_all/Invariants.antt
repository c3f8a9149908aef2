use Rattle.std.proofs.Common.{◌≡◌, take}
use Rattle.fm_bank.specs.Interning.{IsFront}
use Rattle.fm_resolve.specs.Names.{AreNumbered, names}
use Rattle.fm_resolve.specs.Stores.{IsReady}
use Rattle.fm_resolve.proofs.store.Store.number_all.Given as goal

abbrev pub invariant-loop-lit : goal.invariant-loop-lit
invariant-loop-lit l = record {
  named : names l.self.atoms.keys l.numbers.items ≡ take l.lit-index l.lits;
  numbered : AreNumbered l.self.atoms.keys l.numbers.items;
  ready : IsReady l.self;
  front : IsFront l.fn.self.atoms.keys l.self.atoms.keys;
  clauses : l.self.clauses.items ≡ l.fn.self.clauses.items;
}
