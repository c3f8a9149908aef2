use Rattle.std.proofs.Common.{◌≡◌, true}
use Rattle.std.specs.List.{list_all}
use Rattle.fm_state.specs.Begins.{between, is_constant_in}
use Rattle.fm_steps.specs.Start.{constants_grown}
use Rattle.fm_state.proofs.start.put_constants.Given as goal

abbrev pub invariant-loop-symbol : goal.invariant-loop-symbol
invariant-loop-symbol l = record {
  sig : l.bank.sig ≡ l.fn.bank.sig;
  atoms : l.bank.atoms ≡ l.fn.bank.atoms;
  constants : list_all (is_constant_in l.fn.bank.sig) (between l.symbol l.all) ≡ true;
  terms : constants_grown (between l.symbol l.all) l.bank.terms ≡ constants_grown (between l.first l.all) l.fn.bank.terms;
}
