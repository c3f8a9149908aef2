use Rattle.std.proofs.Common.{Err, inl, inr, refl, ap, sym, ◌≡◌, ◌∙◌}
use Rattle.fmf.proofs.check.check_script.Goals as goal

pub returns-in-Err-Script-clause-judged : goal.returns-in-Err-Script-clause-judged
returns-in-Err-Script-clause-judged g c = inr (inl (record {
  refusal = c.in-Err-Script.refusal;
  is = c.in-Err-Script.ensures.refused c.in-Err-Script.refusal (ap Err c.in-Err-Script.field-0-is);
  refused = c.refuse.ensures.wrote;
  writes = c.refuse.ensures.leaves;
}))
