use Rattle.std.proofs.Common.{◌≡◌, ◌+◌, ◌≤◌, drop, length, true}
use Rattle.fm_sexp.specs.Items.{all_within}
use Rattle.fm_elab.specs.Checks.{refused_from}
use Rattle.fm_elab.specs.Held.{state_of}
use Rattle.fm_check.specs.Scripts.{problems_from}
use Rattle.fm_check.proofs.judging.count_from.Given as goal

abbrev pub invariant-loop-item : goal.invariant-loop-item
invariant-loop-item l = record {
  seen : length (problems_from l.text (state_of l.fn.scopes) l.items) ≡ l.checks + length (problems_from l.text (state_of l.scopes) (drop l.item-index l.items));
  free : refused_from l.text (state_of l.fn.scopes) l.items ≡ refused_from l.text (state_of l.scopes) (drop l.item-index l.items);
  few : l.checks ≤ l.item-index;
  within : all_within (length l.text) (drop l.item-index l.items) ≡ true;
}
