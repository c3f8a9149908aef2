use Rattle.std.proofs.Common.{◌≡◌, ℕ, ◌+◌, ◌≤◌, get_or, sym, subst, ◌∙◌, arith}
use Rattle.fm_base.specs.declared.formula.Formula.{Formula}
use Rattle.fm_thin.specs.Thin.{kind_of}
use Rattle.fm_thin.proofs.Counting.{Counts, counts_all, counts_found, counts_next, counts_none, few_more}
use Rattle.fm_thin.proofs.thin.falsity.Goals as goal

pub loop-formula-init : goal.loop-formula-init
loop-formula-init c = record { counts = counts_none c.args.sig.now c.args.assertions.now; few = omega arith }

pub loop-formula-preserved : goal.loop-formula-preserved
loop-formula-preserved c =
    let i = c.loop-formula.formula-index in
    let x = get_or c.args.assertions.now i c.formula-item.result in
    let kind : kind_of x c.args.sig.now ≡ c.kind_in-kind.result = sym (subst (λ (y : Formula). c.kind_in-kind.result ≡ kind_of y c.args.sig.now) c.formula-item.is c.kind_in-kind.ensures) in
    let next = counts_next c.args.sig.now c.args.assertions.now i c.loop-formula.clauses c.formula-item.result c.kind_in-kind.result c.loop-formula-test.true kind (sym c.is_never.ensures ∙ c.if-is_never.false) c.loop-formula.invariant.counts in
    let more = sym c.clauses_in-clauses.ensures in
    record {
      counts = subst (λ (m : ℕ). Counts c.args.sig.now c.args.assertions.now (i + 1) (c.loop-formula.clauses + m)) more next;
      few = subst (λ (m : ℕ). c.loop-formula.clauses + m ≤ i + 1) more (few_more c.kind_in-kind.result c.loop-formula.clauses i c.loop-formula.invariant.few);
    }

pub returns-then-is_never : goal.returns-then-is_never
returns-then-is_never c =
    let i = c.loop-formula.formula-index in
    let x = get_or c.args.assertions.now i c.formula-item.result in
    let kind : kind_of x c.args.sig.now ≡ c.kind_in-kind.result = sym (subst (λ (y : Formula). c.kind_in-kind.result ≡ kind_of y c.args.sig.now) c.formula-item.is c.kind_in-kind.ensures) in
    counts_found c.args.sig.now c.args.assertions.now i c.loop-formula.clauses c.formula-item.result c.kind_in-kind.result c.loop-formula-test.true kind (sym c.is_never.ensures ∙ c.if-is_never.true) c.loop-formula.invariant.counts

pub returns : goal.returns
returns c = counts_all c.args.sig.now c.args.assertions.now c.loop-formula.formula-index c.loop-formula.clauses c.loop-formula-test.false c.loop-formula.invariant.counts
