use Rattle.std.proofs.Common.{length, map, ap, ◌∙◌}
use Rattle.std.proofs.lemmas.List.FromFn.{length-range_with_len}
use Rattle.fm_bank.specs.Closure.{shapes_of}
use Rattle.fm_bank.specs.Terms.{numbers}
use Rattle.fm_closure.specs.Classes.{numbers_of}
use Rattle.fm_closure.proofs.Soundness.{sound_start}
use Rattle.fm_closure.proofs.passes.passed_classes.Goals as goal

pub pass_until_done-requires-clause-whole : goal.pass_until_done-requires-clause-whole
pass_until_done-requires-clause-whole c = ap length c.in_ok-classes.ensures ∙ (length-range_with_len 0 c.len.result ∙ c.len.ensures.len)

pub pass_until_done-requires-clause-sound : goal.pass_until_done-requires-clause-sound
pass_until_done-requires-clause-sound c = sound_start (shapes_of c.args.bank.now.terms (numbers c.args.over.now)) (map numbers_of c.args.facts.now) c.args.objects.now.keys c.in_ok-classes.classes c.len.result c.in_ok-classes.ensures
