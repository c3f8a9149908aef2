use Rattle.std.proofs.Common.{◌≡◌, ◌<◌, ℕ, inr, length, map, sym, subst, ap, ◌∙◌, arith}
use Rattle.std.specs.List.{Contains}
use Rattle.std.proofs.lemmas.List.{length-map}
use Rattle.std.proofs.lemmas.List.Elements.{All-contains_itself, All-get_or}
use Rattle.fm_closure.specs.Classes.{AreSoundOver, IsUnjoined, joined, total}
use Rattle.fm_closure.proofs.Soundness.{less_step, sound_step}
use Rattle.fm_closure.proofs.closure.sweep.Goals.{in-Some, in_default}
use Rattle.fm_closure.proofs.closure.sweep.Goals as goal

pub loop-a-preserved : goal.loop-a-preserved
loop-a-preserved c =
    let objects = c.args.objects.now.keys in
    let terms = c.args.bank.now.terms in
    let over = c.args.over.now in
    let facts = c.args.facts.now in
    let classes = c.loop-a.classes in
    elim c.match-unjoined_with.branch [
      | in-Some w ↦
          let p : ℕ × ℕ = (w.in-Some.c, w.in-Some.d) in
          let here = All-get_or (Contains over) over c.loop-a.a-index (record { 0 = 0 }) c.loop-a-test.true (All-contains_itself over) in
          let gap : IsUnjoined objects classes terms over facts p = inr (_, here, w.in-Some.ensures.some) in
          let less : total (map (joined w.in-Some.c w.in-Some.d) classes) < total classes = less_step terms over facts objects classes p gap in
          let is : c.match-unjoined_with.classes ≡ map (joined w.in-Some.c w.in-Some.d) classes = w.classes-is ∙ w.join.ensures in
          record {
            whole = ap length is ∙ (length-map classes (joined w.in-Some.c w.in-Some.d) ∙ c.loop-a.invariant.whole);
            sound = subst (AreSoundOver terms over facts objects) (sym is) (sound_step terms over facts objects classes p c.loop-a.invariant.sound gap);
            falls = let same : total c.match-unjoined_with.classes ≡ total (map (joined w.in-Some.c w.in-Some.d) classes) = ap total is in omega (arith, less, same, c.loop-a.invariant.falls);
          }
      | in_default w ↦
          record {
            whole = ap length w.classes-is ∙ c.loop-a.invariant.whole;
            sound = subst (AreSoundOver terms over facts objects) (sym w.classes-is) c.loop-a.invariant.sound;
            falls = let same : total c.match-unjoined_with.classes ≡ total classes = ap total w.classes-is in omega (arith, same, c.loop-a.invariant.falls);
          }
    ]
