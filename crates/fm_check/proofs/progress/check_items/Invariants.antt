use Rattle.std.proofs.Common.{◌≡◌, Option, None, List, drop, length, true}
use Rattle.fm_sexp.specs.Items.{all_within}
use Rattle.fm_cert.specs.declared.block.Claim.{Claim}
use Rattle.fm_elab.specs.Checks.{refused_from}
use Rattle.fm_elab.specs.Held.{state_of}
use Rattle.fm_elab.specs.SortLaw.{IsSortedState}
use Rattle.fm_blocks.specs.declared.verdict.Fault.{Fault}
use Rattle.fm_check.specs.Carrying.{Finds, IsUnderWay}
use Rattle.fm_check.specs.Scripts.{problems_from}
use Rattle.fm_check.proofs.progress.check_items.Given as goal

abbrev pub invariant-loop-item : goal.invariant-loop-item
invariant-loop-item l = record {
  finds : (found : Option Fault) (last : List Claim) → Finds (problems_from l.text (state_of l.scopes) (drop l.item-index l.items)) l.reader l.claims.items found last → Finds (problems_from l.text (state_of l.fn.scopes) l.items) l.fn.reader l.fn.claims.items found last;
  free : refused_from l.text (state_of l.scopes) (drop l.item-index l.items) ≡ None;
  sorted : IsSortedState (state_of l.scopes);
  reading : IsUnderWay l.reader l.claims.items;
  within : all_within (length l.text) (drop l.item-index l.items) ≡ true;
}
