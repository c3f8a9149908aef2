use Rattle.std.proofs.Common.{◌≡◌, ℕ, ◌++◌, ◌+◌, ◌∷◌, [], List, length, drop, get_or, ap, ◌∙◌, arith, length-append, vec_len}
use Rattle.fm_base.specs.declared.signature.Rank.{Rank}
use Rattle.fm_nnf.specs.declared.making.Binding.{Binding}
use Rattle.fm_nnf.specs.Bindings.{terms_of}
use Rattle.fm_nnf.specs.NormalForm.{skolem_ranks, skolem_terms}
use Rattle.fm_nnf.proofs.Adding.{rank_step, skolem_rank, symbol_step}
use Rattle.fm_nnf.proofs.making.with_symbols.Goals as goal

pub loop-sort-preserved : goal.loop-sort-preserved
loop-sort-preserved c =
    let scope = c.args.scope.now in
    let vars = c.args.vars.now in
    let i = c.loop-sort.sort-index in
    let old = c.loop-sort.ranks.items in
    let new = c.push-in-loop-sort.new.self.items in
    let pushed = c.in_ok-push-2.ensures.items in
    let grown = ap length pushed in
    let long = length-append old (c.in_ok-rank_of.field-0 ∷ []) in
    let made : c.in_ok-rank_of.field-0 ≡ skolem_rank scope (get_or vars i (record { 0 = 0 })) = c.in_ok-rank_of.ensures in
    let n : vec_len c.loop-sort.ranks ≡ length old = omega arith in
    record {
      terms = ap (λ bs. terms_of bs ++ skolem_terms scope (c.args.first + length new) (drop (i + 1) vars)) c.in_ok-push.ensures.items
          ∙ ap (λ (k : ℕ). terms_of (c.loop-sort.all.items ++ Binding.Applied (record { 0 = c.args.first + k }) (length scope) ∷ []) ++ skolem_terms scope (c.args.first + length new) (drop (i + 1) vars)) (c.len.ensures ∙ n)
          ∙ symbol_step c.loop-sort.all.items scope (c.args.first + length old) (c.args.first + length new) i vars c.loop-sort-test.true (omega (arith, grown, long)) ∙ c.loop-sort.invariant.terms;
      ranks = ap (λ (rs : List Rank). rs ++ skolem_ranks scope (drop (i + 1) vars)) (pushed ∙ ap (λ (r : Rank). old ++ r ∷ []) made)
          ∙ rank_step old scope i vars c.loop-sort-test.true ∙ c.loop-sort.invariant.ranks;
    }
