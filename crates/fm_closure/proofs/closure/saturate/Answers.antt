use Rattle.std.proofs.Common.{◌<◌, ◌≡◌, length, map, sym, subst, ap, ◌∙◌, arith}
use Rattle.std.proofs.lemmas.List.{length-map}
use Rattle.fm_closure.specs.Classes.{AreSoundOver, joined, total}
use Rattle.fm_closure.proofs.Soundness.{closed_end, less_step, sound_step}
use Rattle.fm_closure.proofs.closure.saturate.Goals as goal

pub sweep-requires-clause-whole : goal.sweep-requires-clause-whole
sweep-requires-clause-whole c = ap length c.join.ensures ∙ (length-map c.loop-c.classes (joined c.in-Some.c c.in-Some.d) ∙ c.loop-c.invariant.whole)

pub sweep-requires-clause-sound : goal.sweep-requires-clause-sound
sweep-requires-clause-sound c =
    subst (AreSoundOver c.args.bank.now.terms c.args.over.now c.args.facts.now c.args.objects.now.keys) (sym c.join.ensures) (sound_step c.args.bank.now.terms c.args.over.now c.args.facts.now c.args.objects.now.keys c.loop-c.classes (c.in-Some.c, c.in-Some.d) c.loop-c.invariant.sound c.in-Some.ensures.some)

pub loop-c-smaller : goal.loop-c-smaller
loop-c-smaller c =
    let less : total (map (joined c.in-Some.c c.in-Some.d) c.loop-c.classes) < total c.loop-c.classes = less_step c.args.bank.now.terms c.args.over.now c.args.facts.now c.args.objects.now.keys c.loop-c.classes (c.in-Some.c, c.in-Some.d) c.in-Some.ensures.some in
    let same : total c.join.new.classes ≡ total (map (joined c.in-Some.c c.in-Some.d) c.loop-c.classes) = ap total c.join.ensures in
    omega (arith, less, same, c.sweep.ensures.falls)

pub returns-clause-closed : goal.returns-clause-closed
returns-clause-closed c = closed_end c.args.bank.now.terms c.args.over.now c.args.facts.now c.args.objects.now.keys c.loop-c.classes c.in_default.ensures.facts c.in_default.ensures.terms
