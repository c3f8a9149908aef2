use Rattle.std.proofs.Common.{sym, subst, ◌∙◌}
use Rattle.fm_base.specs.declared.ids.Reader.{Reader}
use Rattle.fm_readers.specs.Graphs.{GoesBack}
use Rattle.fm_steps.specs.State.{State}
use Rattle.fm_machine.proofs.Gone.{gone_tied, levels_are, raise_gone, raise_known}
use Rattle.fm_machine.proofs.returning.raise.Goals as goal

pub graphs_back-requires-clause-congruence : goal.graphs_back-requires-clause-congruence
graphs_back-requires-clause-congruence c = levels_are c.args.search.now.state Reader.Congruence c.args.search.now.congruence c.levels_open-congruence.result.0 c.requires.tied.congruence c.levels_open-congruence.ensures.congruence

pub graphs_back-requires-clause-regions : goal.graphs_back-requires-clause-regions
graphs_back-requires-clause-regions c = levels_are c.args.search.now.state Reader.Regions c.args.search.now.regions c.levels_open-congruence.result.1 c.requires.tied.regions c.levels_open-congruence.ensures.regions

pub settle-requires-clause-tied : goal.settle-requires-clause-tied
settle-requires-clause-tied c =
    let s = c.args.search.now in
    let back = c.in_ok-graphs_back.ensures in
    let u = c.graphs_back.new.search in
    let gone = raise_gone s.state u.state c.requires.explained (back.state ∙ c.in_ok-raise.ensures) in
    gone_tied 0 s.state u.state c.requires.known c.requires.explained gone s.congruence u.congruence s.regions u.regions c.requires.tied back.terms.congruent
    (subst (λ (x : State). GoesBack x.held 0 s.congruence u.congruence) (sym back.state) back.first) back.terms.sized
    (subst (λ (x : State). GoesBack x.held 0 s.regions u.regions) (sym back.state) back.second)

pub settle-requires-clause-known : goal.settle-requires-clause-known
settle-requires-clause-known c = raise_known c.args.search.now.state c.graphs_back.new.search.state c.requires.known c.requires.explained (c.in_ok-graphs_back.ensures.state ∙ c.in_ok-raise.ensures)
