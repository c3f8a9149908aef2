use Rattle.std.proofs.Common.{false, true, ◌≡◌}
use Rattle.std.specs.Prelude.{codes}
use Rattle.std.specs.Str.{bytes_eq}
use Rattle.fm_script.specs.Shown.{name_shown}
use Rattle.fm_apply.proofs.Heads.{is_false}
use Rattle.fm_apply.proofs.constants.core_word.Goals as goal

pub returns-then-eq-2-clause-answer : goal.returns-then-eq-2-clause-answer
returns-then-eq-2-clause-answer c =
    let q1 = c.eq.ensures in
    let k1 = c.if-eq.false in
    let s1 = c.as_slice.ensures in
    let e1 : bytes_eq c.args.part.bytes.now (codes "true") ≡ false = cc in
    let q2 = c.eq-2.ensures in
    let k2 = c.if-eq-2.true in
    let s2 = c.as_slice-2.ensures in
    let e2 : bytes_eq c.args.part.bytes.now (codes "false") ≡ true = cc in
    λ x e. is_false x c.args.arena.now (name_shown c.args.part) c.new-then-eq-2.result c.make-then-eq-2.new.arena c.make-then-eq-2.result e1 e2 c.new-then-eq-2.ensures (c.make-then-eq-2.ensures.answer x e)
