use Rattle.std.proofs.Common.{◌≡◌, IfOk, sym, subst}
use Rattle.fm_elab.specs.SortLaw.{IsSortedState}
use Rattle.fm_elab.specs.Stacks.{State as Stack}
use Rattle.fm_elab.proofs.SortedStates.{start_sorted}
use Rattle.fm_check.specs.Carrying.{Finds}
use Rattle.fm_check.specs.Scripts.{problems_from}
use Rattle.fm_check.proofs.whole.check_blocks.Goals as goal

pub check_items-requires-clause-sorted : goal.check_items-requires-clause-sorted
check_items-requires-clause-sorted c = subst IsSortedState (sym c.new-scopes.ensures) start_sorted

pub returns : goal.returns
returns c = subst (λ (s : Stack). IfOk c.check_items.result (λ o. Finds (problems_from c.args.script.now s c.args.items.now) c.args.reader.now c.args.claims.now.items o c.check_items.new.claims.items)) c.new-scopes.ensures c.check_items.ensures
