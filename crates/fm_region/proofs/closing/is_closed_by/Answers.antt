use Rattle.std.proofs.Common.{◌≡◌, ℕ, ◌+◌, ◌-◌, ◌≤◌, List, inl, inr, refl, sym, ap, ◌∙◌, arith}
use Rattle.std.specs.Prelude.{nat_le}
use Rattle.std.specs.List.{count_by}
use Rattle.std.proofs.lemmas.Bool.{cases_lt, false≢true, le-leb, leb-true}
use Rattle.fm_region.proofs.Counting.{count_le}
use Rattle.fm_region.proofs.closing.is_closed_by.Goals as goal

abbrev many : List ℕ → ℕ → ℕ
many outs n = count_by (λ (o : ℕ). nat_le n o) outs

fewer : (outs : List ℕ) (m n : ℕ) → m ≤ n → many outs n ≤ many outs m
fewer outs m n le = count_le (λ (o : ℕ). nat_le n o) (λ (o : ℕ). nat_le m o) outs (λ o h. let l = leb-true n o h in le-leb m o (omega (arith, l, le)))

pub returns-then-few-end : goal.returns-then-few-end
returns-then-few-end c =
    let end = c.loop-end.end in
    let k = c.args.k in
    let same : k + 1 - end ≡ k - (end - 1) = omega (arith, c.loop-end.invariant.within, c.loop-end-test.true) in
    let is : many c.args.outs.now (k + 1 - end) ≡ c.at_least-few.result = ap (many c.args.outs.now) same ∙ sym c.at_least-few.ensures in
    (λ t. absurd (false≢true t), λ h. let f = h end (omega (arith, c.loop-end-test.true)) c.loop-end.invariant.within in absurd (omega (arith, f, is, c.if-few-end.true)))

pub loop-end-preserved : goal.loop-end-preserved
loop-end-preserved c =
    let end = c.loop-end.end in
    let k = c.args.k in
    let outs = c.args.outs.now in
    let same : k + 1 - end ≡ k - (end - 1) = omega (arith, c.loop-end.invariant.within, c.loop-end-test.true) in
    let is : many outs (k + 1 - end) ≡ c.at_least-few.result = ap (many outs) same ∙ sym c.at_least-few.ensures in
    record {
      within = omega (arith, c.loop-end.invariant.within, c.if-few-end.false);
      few = λ a more le. elim (cases_lt end a) [
        | inl past ↦ c.loop-end.invariant.few a past le
        | inr before ↦ let f = fewer outs (k + 1 - end) (k + 1 - a) (omega (arith, before)) in omega (arith, f, is, more)
      ];
    }

pub returns : goal.returns
returns c = (λ t a one le. c.loop-end.invariant.few a (omega (arith, one, c.loop-end-test.false)) le, λ h. refl)
