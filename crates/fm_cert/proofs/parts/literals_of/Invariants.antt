use Rattle.std.proofs.Common.{◌≡◌, drop, map}
use Rattle.fm_cert.specs.Parts.{literal_in, all_in}
use Rattle.fm_cert.proofs.PartLists.{put}
use Rattle.fm_cert.proofs.parts.literals_of.Given as goal

abbrev pub invariant-loop-part : goal.invariant-loop-part
invariant-loop-part l = all_in literal_in (map (λ s. s.now) l.parts) ≡ put l.literals.items (all_in literal_in (map (λ s. s.now) (drop l.part-index l.parts)))
