use Rattle.std.proofs.Common.{◌∙◌, ◌∷◌, [], ℕ, List, refl, sym, subst}
use Rattle.fm_cong.specs.Graphs.{IsWorking, cells_of}
use Rattle.fm_cong.proofs.Marking.{after_extends, after_more}
use Rattle.fm_cong.proofs.Reading.{follows_read, holds_read, working_read}
use Rattle.fm_cong.proofs.levels.read_on.Goals as goal

pub join-requires-clause-working : goal.join-requires-clause-working
join-requires-clause-working c =
    let s = c.args.state.now in
    working_read c.args.members.now s.facts.items c.push.new.self.items c.args.fact c.in_ok-push.ensures.items (cells_of s) s.waiting.items refl (subst (λ (ws : List (ℕ × ℕ)). IsWorking c.args.members.now (cells_of s) ws) (sym c.requires.quiet) c.requires.steady.working)

pub join-requires-clause-follows : goal.join-requires-clause-follows
join-requires-clause-follows c = follows_read c.args.members.now c.args.state.now.facts.items c.push.new.self.items c.args.fact c.in_ok-push.ensures.items c.args.node c.args.to c.requires.sides

pub returns-in_err-run-clause-after : goal.returns-in_err-run-clause-after
returns-in_err-run-clause-after c =
    let e = c.in_ok-join.ensures.extends in
    after_more c.args.state.now c.join.new.state c.run.new.state (record { class = e.class; next = e.next; size = e.size; links = e.links; table = e.table; facts = (c.args.fact ∷ [], e.facts ∙ c.in_ok-push.ensures.items) }) (after_extends c.join.new.state c.run.new.state c.in_err-run.ensures.extends)

pub returns-clause-after : goal.returns-clause-after
returns-clause-after c =
    let e = c.in_ok-join.ensures.extends in
    after_more c.args.state.now c.join.new.state c.run.new.state (record { class = e.class; next = e.next; size = e.size; links = e.links; table = e.table; facts = (c.args.fact ∷ [], e.facts ∙ c.in_ok-push.ensures.items) }) (after_extends c.join.new.state c.run.new.state c.in_ok-run.ensures.extends)

pub returns-clause-steady : goal.returns-clause-steady
returns-clause-steady c =
    let s = c.args.state.now in
    let j = c.in_ok-join.ensures in
    let r = c.in_ok-run.ensures in
    record {
      working = r.working;
      holds = holds_read c.args.members.now s.facts.items c.run.new.state.facts.items c.args.fact (c.in_ok-run.ensures.extends.facts ∙ (c.in_ok-join.ensures.extends.facts ∙ c.in_ok-push.ensures.items)) c.args.node c.args.to c.requires.sides s.classes.class.cells.items c.run.new.state.classes.class.cells.items (λ x y e. r.coarser x y (j.coarser x y e)) (r.coarser c.args.node c.args.to j.joined) c.requires.steady.holds;
    }
