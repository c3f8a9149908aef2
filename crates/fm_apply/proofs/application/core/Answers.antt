use Rattle.std.proofs.Common.{List, ap, false, map, sym, true, ℕ, ◌∙◌, ◌≡◌}
use Rattle.std.specs.Prelude.{codes}
use Rattle.std.specs.Str.{bytes_eq}
use Rattle.fm_base.specs.Truth.{is_bool}
use Rattle.fm_base.specs.declared.signature.Ty.{Ty}
use Rattle.fm_script.specs.Shown.{name_shown}
use Rattle.fm_arena.specs.Trees.{all_formulas}
use Rattle.fm_apply.specs.Scoped.{terms_at}
use Rattle.fm_apply.proofs.Applying.{and_taken, bools_of, or_taken}
use Rattle.fm_apply.proofs.Heads.{is_and, is_or}
use Rattle.fm_apply.proofs.application.core.Goals as goal

pub apply-requires-then-eq-2-clause-kinds : goal.apply-requires-then-eq-2-clause-kinds
apply-requires-then-eq-2-clause-kinds c =
    ap (λ (l : List Ty). all_formulas (map is_bool l)) (c.as_slice-then-eq-2-2.ensures.value ∙ c.in_ok-types.ensures) ∙ and_taken c.as_slice-then-eq-2.result.now

pub returns-then-eq-2-clause-answer : goal.returns-then-eq-2-clause-answer
returns-then-eq-2-clause-answer c =
    let q1 = c.eq.ensures in
    let k1 = c.if-eq.false in
    let s1 = c.as_slice.ensures in
    let e1 : bytes_eq c.args.part.bytes.now (codes "not") ≡ false = cc in
    let q2 = c.eq-2.ensures in
    let k2 = c.if-eq-2.true in
    let s2 = c.as_slice-2.ensures in
    let e2 : bytes_eq c.args.part.bytes.now (codes "and") ≡ true = cc in
    let tys = c.as_slice-then-eq-2-2.ensures.value ∙ c.in_ok-types.ensures ∙ ap (λ (is : List ℕ). map (λ (a : ℕ). Ty.Bool) is) c.as_slice-then-eq-2.ensures ∙ sym (bools_of c.args.arena.now c.args.args) in
    λ x e. is_and x c.args.at (name_shown c.args.part) c.args.items.now (terms_at c.args.arena.now c.args.args) _ c.apply-then-eq-2.new.arena c.apply-then-eq-2.result e1 e2 tys (c.apply-then-eq-2.ensures.answer x e)

pub apply-requires-then-eq-3-clause-kinds : goal.apply-requires-then-eq-3-clause-kinds
apply-requires-then-eq-3-clause-kinds c =
    ap (λ (l : List Ty). all_formulas (map is_bool l)) (c.as_slice-then-eq-3-2.ensures.value ∙ c.in_ok-types-2.ensures) ∙ or_taken c.as_slice-then-eq-3.result.now

pub returns-then-eq-3-clause-answer : goal.returns-then-eq-3-clause-answer
returns-then-eq-3-clause-answer c =
    let q1 = c.eq.ensures in
    let k1 = c.if-eq.false in
    let s1 = c.as_slice.ensures in
    let e1 : bytes_eq c.args.part.bytes.now (codes "not") ≡ false = cc in
    let q2 = c.eq-2.ensures in
    let k2 = c.if-eq-2.false in
    let s2 = c.as_slice-2.ensures in
    let e2 : bytes_eq c.args.part.bytes.now (codes "and") ≡ false = cc in
    let q3 = c.eq-3.ensures in
    let k3 = c.if-eq-3.true in
    let s3 = c.as_slice-3.ensures in
    let e3 : bytes_eq c.args.part.bytes.now (codes "or") ≡ true = cc in
    let tys = c.as_slice-then-eq-3-2.ensures.value ∙ c.in_ok-types-2.ensures ∙ ap (λ (is : List ℕ). map (λ (a : ℕ). Ty.Bool) is) c.as_slice-then-eq-3.ensures ∙ sym (bools_of c.args.arena.now c.args.args) in
    λ x e. is_or x c.args.at (name_shown c.args.part) c.args.items.now (terms_at c.args.arena.now c.args.args) _ c.apply-then-eq-3.new.arena c.apply-then-eq-3.result e1 e2 e3 tys (c.apply-then-eq-3.ensures.answer x e)
