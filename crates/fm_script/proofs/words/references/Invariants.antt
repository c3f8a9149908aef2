use Rattle.std.proofs.Common.{◌≡◌, map, take}
use Rattle.fm_script.proofs.words.references.Given as goal

abbrev pub invariant-loop-item : goal.invariant-loop-item
invariant-loop-item l = map (λ b. b.now) l.list.items ≡ take l.item-index l.items
