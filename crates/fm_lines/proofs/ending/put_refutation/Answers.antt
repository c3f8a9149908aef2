use Rattle.std.proofs.Common.{[], length, sym, ap, subst, ◌∙◌, ◌++◌}
use Rattle.std.proofs.lemmas.Result.{on_ok_weaker}
use Rattle.fm_sat.specs.Learning.{Steps}
use Rattle.fm_steps.specs.Lines.{learnt_lines}
use Rattle.fm_lines.specs.Naming.{AreStepsOver}
use Rattle.fm_lines.proofs.Shown.{chain_over, refutation_shown}
use Rattle.fm_lines.proofs.ending.put_refutation.Goals as goal

pub put_learnt-requires : goal.put_learnt-requires
put_learnt-requires c =
    let held = c.args.bank.now in
    let chain = c.in_ok-chain.chain in
    subst (λ (ss : Steps). AreStepsOver (length held.atoms) ss) (sym c.as_slice.ensures.value)
    (chain_over held c.args.store.now.clauses c.one_number_per_term.ensures.held c.requires.known chain.start chain.steps.items [] c.in_ok-chain.ensures.chain)

pub returns : goal.returns
returns c =
    let held = c.args.bank.now in
    let chain = c.in_ok-chain.chain in
    let old = c.args.lines.now.items in
    on_ok_weaker c.put_learnt.result
    (λ e. refutation_shown held c.args.store.now.clauses c.one_number_per_term.ensures.held c.requires.known chain.start chain.steps.items old c.put_learnt.new.lines.items c.in_ok-chain.ensures.chain
    (e ∙ ap (λ (ss : Steps). old ++ learnt_lines held.atoms chain.start ss) c.as_slice.ensures.value))
    c.put_learnt.ensures
