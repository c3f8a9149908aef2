use Rattle.std.proofs.Common.{◌≡◌, ℕ, ◌+◌, ◌-◌, ◌<◌, ◌≤◌, length, take, get_or, set, ap, sym, subst, ◌∙◌, arith}
use Rattle.std.proofs.lemmas.List.{take-set-le}
use Rattle.fm_inst.specs.Prefixes.{beyond, rest}
use Rattle.fm_inst.proofs.Beginnings.{grow_at, leave_at}
use Rattle.fm_inst.proofs.prefixes.advance.Goals as goal

pub returns-then-env-left-clause-some : goal.returns-then-env-left-clause-some
returns-then-env-left-clause-some c =
    let ns = c.args.sizes.now in
    let env = c.loop-left.env in
    let k : ℕ = c.loop-left.left - 1 in
    let next : c.loop-left.left ≡ k + 1 = omega arith in
    let lt : k < length ns = omega (arith, c.loop-left.invariant.within, c.requires.within) in
    let len : length env ≡ length ns = ap length c.loop-left.invariant.same ∙ c.requires.room in
    let more : get_or env k 0 + 1 < get_or ns k 0 = omega (arith, c.if-env-left.true, c.saturating_sub-last.ensures) in
    record {
      some = omega arith;
      within = c.loop-left.invariant.within;
      left = subst (λ n. rest ns (take n (set env k (get_or env k 0 + 1))) ≡ beyond ns (take n env)) (sym next) (grow_at ns env k lt len more) ∙ c.loop-left.invariant.left_out;
      same = take-set-le k env k (get_or env k 0 + 1) (omega arith) ∙ ap (take k) c.loop-left.invariant.same;
    }

pub loop-left-preserved : goal.loop-left-preserved
loop-left-preserved c =
    let ns = c.args.sizes.now in
    let env = c.loop-left.env in
    let k : ℕ = c.loop-left.left - 1 in
    let next : c.loop-left.left ≡ k + 1 = omega arith in
    let lt : k < length ns = omega (arith, c.loop-left.invariant.within, c.requires.within) in
    let len : length env ≡ length ns = ap length c.loop-left.invariant.same ∙ c.requires.room in
    let le : get_or ns k 0 ≤ get_or env k 0 + 1 = omega (arith, c.if-env-left.false, c.saturating_sub-last.ensures) in
    record {
      within = omega (arith, c.loop-left.invariant.within);
      left_out = sym (leave_at ns env k lt len le) ∙ ap (λ n. beyond ns (take n env)) (sym next) ∙ c.loop-left.invariant.left_out;
      same = c.loop-left.invariant.same;
    }
