use Rattle.std.proofs.Common.{false, true, ◌≡◌}
use Rattle.std.specs.Prelude.{codes}
use Rattle.std.specs.Str.{bytes_eq}
use Rattle.fm_script.specs.Shown.{name_shown}
use Rattle.fm_apply.specs.Scoped.{terms_at}
use Rattle.fm_apply.proofs.Heads.{is_distinct, is_equality, is_exclusive, is_implication}
use Rattle.fm_apply.proofs.application.later_core.Goals as goal

pub returns-then-eq-clause-answer : goal.returns-then-eq-clause-answer
returns-then-eq-clause-answer c =
    let q1 = c.eq.ensures in
    let k1 = c.if-eq.true in
    let s1 = c.as_slice.ensures in
    let e1 : bytes_eq c.args.part.bytes.now (codes "=>") ≡ true = cc in
    λ x e. is_implication x c.args.at (name_shown c.args.part) c.args.items.now (terms_at c.args.arena.now c.args.args.now) c.implication.new.arena c.implication.result e1 (c.implication.ensures.answer x e)

pub returns-then-eq-2-clause-answer : goal.returns-then-eq-2-clause-answer
returns-then-eq-2-clause-answer c =
    let q1 = c.eq.ensures in
    let k1 = c.if-eq.false in
    let s1 = c.as_slice.ensures in
    let e1 : bytes_eq c.args.part.bytes.now (codes "=>") ≡ false = cc in
    let q2 = c.eq-2.ensures in
    let k2 = c.if-eq-2.true in
    let s2 = c.as_slice-2.ensures in
    let e2 : bytes_eq c.args.part.bytes.now (codes "xor") ≡ true = cc in
    λ x e. is_exclusive x c.args.at (name_shown c.args.part) c.args.items.now (terms_at c.args.arena.now c.args.args.now) c.exclusive.new.arena c.exclusive.result e1 e2 (c.exclusive.ensures.answer x e)

pub returns-then-eq-3-clause-answer : goal.returns-then-eq-3-clause-answer
returns-then-eq-3-clause-answer c =
    let q1 = c.eq.ensures in
    let k1 = c.if-eq.false in
    let s1 = c.as_slice.ensures in
    let e1 : bytes_eq c.args.part.bytes.now (codes "=>") ≡ false = cc in
    let q2 = c.eq-2.ensures in
    let k2 = c.if-eq-2.false in
    let s2 = c.as_slice-2.ensures in
    let e2 : bytes_eq c.args.part.bytes.now (codes "xor") ≡ false = cc in
    let q3 = c.eq-3.ensures in
    let k3 = c.if-eq-3.true in
    let s3 = c.as_slice-3.ensures in
    let e3 : bytes_eq c.args.part.bytes.now (codes "=") ≡ true = cc in
    λ x e. is_equality x c.args.at (name_shown c.args.part) c.args.items.now (terms_at c.args.arena.now c.args.args.now) c.equality.new.arena c.equality.result e1 e2 e3 (c.equality.ensures.answer x e)

pub returns-then-eq-4-clause-answer : goal.returns-then-eq-4-clause-answer
returns-then-eq-4-clause-answer c =
    let q1 = c.eq.ensures in
    let k1 = c.if-eq.false in
    let s1 = c.as_slice.ensures in
    let e1 : bytes_eq c.args.part.bytes.now (codes "=>") ≡ false = cc in
    let q2 = c.eq-2.ensures in
    let k2 = c.if-eq-2.false in
    let s2 = c.as_slice-2.ensures in
    let e2 : bytes_eq c.args.part.bytes.now (codes "xor") ≡ false = cc in
    let q3 = c.eq-3.ensures in
    let k3 = c.if-eq-3.false in
    let s3 = c.as_slice-3.ensures in
    let e3 : bytes_eq c.args.part.bytes.now (codes "=") ≡ false = cc in
    let q4 = c.eq-4.ensures in
    let k4 = c.if-eq-4.true in
    let s4 = c.as_slice-4.ensures in
    let e4 : bytes_eq c.args.part.bytes.now (codes "distinct") ≡ true = cc in
    λ x e. is_distinct x c.args.at (name_shown c.args.part) c.args.items.now (terms_at c.args.arena.now c.args.args.now) c.distinct.new.arena c.distinct.result e1 e2 e3 e4 (c.distinct.ensures.answer x e)
