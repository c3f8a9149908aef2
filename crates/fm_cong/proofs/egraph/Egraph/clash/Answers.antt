use Rattle.std.proofs.Common.{subst}
use Rattle.std.specs.Prelude.{IfNone, IfSome}
use Rattle.fm_cong.specs.Clashes.{HasNoClash, IsClash}
use Rattle.fm_cong.specs.Faithful.{held_in}
use Rattle.fm_cong.specs.Graphs.{cells_of}
use Rattle.fm_cong.specs.Held.{Held}
use Rattle.fm_cong.proofs.Clashing.{clash_told}
use Rattle.fm_cong.proofs.Keeping.{complete_in}
use Rattle.fm_cong.proofs.Reading.{classes_exact}
use Rattle.fm_cong.proofs.egraph.Egraph.clash.Goals as goal

pub returns-clause-some : goal.returns-clause-some
returns-clause-some c =
    let g = c.self.inside in
    let complete = complete_in g c.self.invariant.sound c.args.self.now c.self.view_is c.requires.settled in
    let told = clash_told (held_in g) g.state.classes.class.cells.items (classes_exact g.members.items (cells_of g.state) complete) complete.steady.holds c.clash_of.result c.clash_of.ensures in
    subst (λ (h : Held). IfSome c.clash_of.result (IsClash h)) c.self.view_is told.some

pub returns-clause-none : goal.returns-clause-none
returns-clause-none c =
    let g = c.self.inside in
    let complete = complete_in g c.self.invariant.sound c.args.self.now c.self.view_is c.requires.settled in
    let told = clash_told (held_in g) g.state.classes.class.cells.items (classes_exact g.members.items (cells_of g.state) complete) complete.steady.holds c.clash_of.result c.clash_of.ensures in
    subst (λ (h : Held). IfNone c.clash_of.result (HasNoClash h)) c.self.view_is told.none

pub clash_of-requires-clause-holds : goal.clash_of-requires-clause-holds
clash_of-requires-clause-holds c = c.self.invariant.sound.steady.holds

pub clash_of-requires-clause-pairs : goal.clash_of-requires-clause-pairs
clash_of-requires-clause-pairs c = c.self.invariant.unequal

pub clash_of-requires-clause-indexed : goal.clash_of-requires-clause-indexed
clash_of-requires-clause-indexed c = c.self.invariant.tracked.indexed
