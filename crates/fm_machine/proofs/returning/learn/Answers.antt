use Rattle.std.proofs.Common.{sym, ap, subst, ◌∙◌}
use Rattle.fm_base.specs.declared.ids.Reader.{Reader}
use Rattle.fm_readers.specs.Graphs.{GoesBack}
use Rattle.fm_steps.specs.Picks.{Settles}
use Rattle.fm_steps.specs.Rows.{LearnRow}
use Rattle.fm_steps.specs.State.{State, Trail}
use Rattle.fm_trail.specs.Trail.{level_of}
use Rattle.fm_machine.proofs.Gone.{gone_tied, learn_gone, learn_known, levels_are}
use Rattle.fm_machine.proofs.returning.learn.Goals as goal

pub graphs_back-requires-clause-congruence : goal.graphs_back-requires-clause-congruence
graphs_back-requires-clause-congruence c = levels_are c.args.search.now.state Reader.Congruence c.args.search.now.congruence c.levels_open-congruence.result.0 c.requires.tied.congruence c.levels_open-congruence.ensures.congruence

pub graphs_back-requires-clause-regions : goal.graphs_back-requires-clause-regions
graphs_back-requires-clause-regions c = levels_are c.args.search.now.state Reader.Regions c.args.search.now.regions c.levels_open-congruence.result.1 c.requires.tied.regions c.levels_open-congruence.ensures.regions

pub settle-requires-clause-tied : goal.settle-requires-clause-tied
settle-requires-clause-tied c =
    let s = c.args.search.now in
    let back = c.in_ok-graphs_back.ensures in
    let u = c.graphs_back.new.search in
    let level = c.level-level.result in
    let row = subst (λ (x : State). LearnRow s.state c.args.clause x) (sym back.state) c.in_ok-steps.ensures.0 in
    let here = c.level-level.ensures ∙ ap (λ (t : Trail). level_of t.entries) c.trail.ensures ∙ ap (λ (x : State). level_of x.trail.entries) (sym back.state) in
    let gone = learn_gone s.state u.state c.args.clause level c.requires.explained row here in
    gone_tied level s.state u.state c.requires.known c.requires.explained gone s.congruence u.congruence s.regions u.regions c.requires.tied back.terms.congruent
    (subst (λ (x : State). GoesBack x.held level s.congruence u.congruence) (sym back.state) back.first) back.terms.sized
    (subst (λ (x : State). GoesBack x.held level s.regions u.regions) (sym back.state) back.second)

pub settle-requires-clause-known : goal.settle-requires-clause-known
settle-requires-clause-known c =
    learn_known c.args.search.now.state c.graphs_back.new.search.state c.args.clause c.requires.known c.requires.explained (subst (λ (x : State). LearnRow c.args.search.now.state c.args.clause x) (sym c.in_ok-graphs_back.ensures.state) c.in_ok-steps.ensures.0)

pub returns-clause-moved : goal.returns-clause-moved
returns-clause-moved c =
    (c.learn.new.self, c.in_ok-steps.ensures, subst (λ (x : State). Settles x c.settle.new.search.state) c.in_ok-graphs_back.ensures.state c.in_ok-settle.ensures.settled)
