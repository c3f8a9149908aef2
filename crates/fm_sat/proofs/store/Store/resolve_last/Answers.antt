use Rattle.std.proofs.Common.{sym, subst, arith}
use Rattle.std.proofs.lemmas.Option.{slice_get_within}
use Rattle.fm_base.specs.declared.ids.Lit.{Lit}
use Rattle.fm_sat.specs.Learning.{IsStep}
use Rattle.fm_sat.specs.Marks.{marked}
use Rattle.fm_sat.proofs.Steps.{last_top, low_step, step_is, undecided}
use Rattle.fm_sat.proofs.store.Store.resolve_last.Goals as goal

pub reason_of-clause-requires : goal.reason_of-clause-requires
reason_of-clause-requires c =
    let cs = c.args.self.now.clauses in
    let es = c.args.trail.now.entries in
    let ms = c.args.marks.now.marks.items in
    let n = c.args.marks.now.count in
    let lower = c.args.marks.now.lower.items in
    let p = c.args.place in
    let e = c.entry-entry.result in
    let at = c.entry-entry.ensures in
    undecided cs es c.args.top c.args.keep ms n lower p e c.requires.walk c.requires.counted c.requires.more c.requires.last at

pub unmark-requires-clause-entry : goal.unmark-requires-clause-entry
unmark-requires-clause-entry c =
    let cs = c.args.self.now.clauses in
    let es = c.args.trail.now.entries in
    let ms = c.args.marks.now.marks.items in
    let n = c.args.marks.now.count in
    let lower = c.args.marks.now.lower.items in
    let p = c.args.place in
    let e = c.entry-entry.result in
    let at = c.entry-entry.ensures in
    let level = last_top es c.args.top ms n lower p e c.requires.walk.levels c.requires.counted (omega arith) c.requires.last at in
    (e, at, level)

pub clause-requires : goal.clause-requires
clause-requires c =
    let cs = c.args.self.now.clauses in
    let es = c.args.trail.now.entries in
    let ms = c.args.marks.now.marks.items in
    let n = c.args.marks.now.count in
    let lower = c.args.marks.now.lower.items in
    let p = c.args.place in
    let e = c.entry-entry.result in
    let at = c.entry-entry.ensures in
    let r = c.requires.walk.explained p e c.reason_of-clause.result at c.reason_of-clause.ensures in
    slice_get_within cs c.reason_of-clause.result r.clause r.stored

pub mark_clause-requires-clause-low : goal.mark_clause-requires-clause-low
mark_clause-requires-clause-low c =
    let cs = c.args.self.now.clauses in
    let es = c.args.trail.now.entries in
    let ms = c.args.marks.now.marks.items in
    let n = c.args.marks.now.count in
    let lower = c.args.marks.now.lower.items in
    let p = c.args.place in
    let e = c.entry-entry.result in
    let at = c.entry-entry.ensures in
    let level = last_top es c.args.top ms n lower p e c.requires.walk.levels c.requires.counted (omega arith) c.requires.last at in
    low_step es c.clause.result.now p c.args.top e c.requires.walk.levels at level

pub returns-clause-step : goal.returns-clause-step
returns-clause-step c =
    let cs = c.args.self.now.clauses in
    let es = c.args.trail.now.entries in
    let ms = c.args.marks.now.marks.items in
    let n = c.args.marks.now.count in
    let lower = c.args.marks.now.lower.items in
    let p = c.args.place in
    let e = c.entry-entry.result in
    let at = c.entry-entry.ensures in
    let new = c.mark_clause.new.self.marks.items in
    let k = c.reason_of-clause.result in
    subst (λ (l : Lit). IsStep c.args.keep cs es (marked ms es) l k (marked new es)) (sym c.opposite.ensures) (step_is c.args.keep cs es c.args.top ms c.unmark.new.self.marks.items new n lower p e k c.clause.result.now c.requires.walk c.requires.counted c.requires.more c.requires.last at c.reason_of-clause.ensures c.clause.ensures c.unmark.ensures.unmarked c.in_ok-mark_clause.ensures.joined)
