use Rattle.std.proofs.Common.{◌≡◌, true, List, sym, subst, ◌∙◌}
use Rattle.std.specs.List.{list_all}
use Rattle.fm_base.specs.Resolution.{AreDistinct}
use Rattle.fm_bank.specs.Interning.{is_atom}
use Rattle.fm_bank.specs.declared.literal.Literal.{Literal}
use Rattle.fm_state.proofs.FirstSum.{sum_atoms, sum_distinct, sum_lits}
use Rattle.fm_state.proofs.standing.State.add_first_sum.Goals as goal

pub add_lemma-requires-clause-atoms : goal.add_lemma-requires-clause-atoms
add_lemma-requires-clause-atoms c =
    let s = c.args.self.now in
    let same : c.as_slice.result.now ≡ sum_lits c.args.sorts = c.as_slice.ensures.value ∙ c.in_ok-lits.ensures in
    subst (λ (ls : List Literal). list_all (λ (l : Literal). is_atom s.held.sig s.held.terms l.atom) ls ≡ true) (sym same) (sum_atoms s.held.sig s.held.terms c.args.sorts c.requires)

pub add_lemma-requires-clause-once : goal.add_lemma-requires-clause-once
add_lemma-requires-clause-once c =
    let same : c.as_slice.result.now ≡ sum_lits c.args.sorts = c.as_slice.ensures.value ∙ c.in_ok-lits.ensures in
    subst AreDistinct (sym same) (sum_distinct c.args.sorts)
