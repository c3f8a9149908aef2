use Rattle.std.proofs.Common.{◌≡◌, ◌≤◌, [], take, drop, length, true, false}
use Rattle.fm_sexp.specs.Items.{all_within}
use Rattle.fm_session.specs.Kept.{past_of}
use Rattle.fm_files.specs.Seen.{OnlyWrites, Seen}
use Rattle.fmf.specs.Reached.{Reached, script_of}
use Rattle.fmf.proofs.answers.answer_items.Given as goal

abbrev pub invariant-loop-item : goal.invariant-loop-item
invariant-loop-item g l = record {
  reached : (before : Seen) → Reached (script_of l.fn.session l.text l.items) l.cert [] (past_of l.fn.session) before (g.F.Files.seen l.fn.files) → Reached (script_of l.fn.session l.text l.items) l.cert (take l.item-index l.items) (past_of l.session) before (g.F.Files.seen l.files);
  leaves : OnlyWrites (g.F.Files.seen l.fn.files) (g.F.Files.seen l.files);
  goes_on : l.session.ended ≡ false;
  few : l.session.checks ≤ l.item-index;
  within : all_within (length l.text) (drop l.item-index l.items) ≡ true;
}
