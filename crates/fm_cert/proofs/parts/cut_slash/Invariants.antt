use Rattle.std.proofs.Common.{◌≡◌, drop, map, take}
use Rattle.fm_cert.specs.Parts.{behind, cut_slash}
use Rattle.fm_cert.proofs.parts.cut_slash.Given as goal

abbrev pub invariant-loop-place : goal.invariant-loop-place
invariant-loop-place l = cut_slash (map (λ s. s.now) l.parts) ≡ behind (map (λ s. s.now) (take l.place l.parts)) (cut_slash (map (λ s. s.now) (drop l.place l.parts)))
