use Rattle.std.proofs.Common.{ℕ, List, subst}
use Rattle.fm_cong.specs.Graphs.{IsWorking, cells_of}
use Rattle.fm_cong.proofs.Running.{extends_more, pair_follows, pair_is_below, pair_justified, waiting_below, working_left}
use Rattle.fm_cong.proofs.join.run.Goals as goal

pub last_open-requires : goal.last_open-requires
last_open-requires c = record { within = waiting_below c.args.members.now (cells_of c.loop-pair.state) c.loop-pair.state.waiting.items c.loop-pair.invariant.working }

pub merge-requires-clause-working : goal.merge-requires-clause-working
merge-requires-clause-working c = working_left c.args.members.now (cells_of c.loop-pair.state) c.loop-pair.state.waiting.items c.last_open.new.waiting.items c.loop-pair.invariant.working c.in-Some.ensures.left

pub merge-requires-clause-node : goal.merge-requires-clause-node
merge-requires-clause-node c = let w = working_left c.args.members.now (cells_of c.loop-pair.state) c.loop-pair.state.waiting.items c.last_open.new.waiting.items c.loop-pair.invariant.working c.in-Some.ensures.left in (pair_is_below c.args.members.now (cells_of c.loop-pair.state) c.last_open.new.waiting.items w c.in-Some.pair c.in-Some.ensures.there).0

pub merge-requires-clause-to : goal.merge-requires-clause-to
merge-requires-clause-to c = let w = working_left c.args.members.now (cells_of c.loop-pair.state) c.loop-pair.state.waiting.items c.last_open.new.waiting.items c.loop-pair.invariant.working c.in-Some.ensures.left in (pair_is_below c.args.members.now (cells_of c.loop-pair.state) c.last_open.new.waiting.items w c.in-Some.pair c.in-Some.ensures.there).1

pub merge-requires-clause-justified : goal.merge-requires-clause-justified
merge-requires-clause-justified c = let w = working_left c.args.members.now (cells_of c.loop-pair.state) c.loop-pair.state.waiting.items c.last_open.new.waiting.items c.loop-pair.invariant.working c.in-Some.ensures.left in pair_justified c.args.members.now (cells_of c.loop-pair.state) c.last_open.new.waiting.items w c.in-Some.pair c.in-Some.ensures.there

pub merge-requires-clause-follows : goal.merge-requires-clause-follows
merge-requires-clause-follows c = let w = working_left c.args.members.now (cells_of c.loop-pair.state) c.loop-pair.state.waiting.items c.last_open.new.waiting.items c.loop-pair.invariant.working c.in-Some.ensures.left in pair_follows c.args.members.now (cells_of c.loop-pair.state) c.last_open.new.waiting.items w c.in-Some.pair c.in-Some.ensures.there

pub loop-pair-preserved : goal.loop-pair-preserved
loop-pair-preserved c =
    let inv = c.loop-pair.invariant in
    let m = c.in_ok-merge.ensures in
    record {
      working = m.working;
      coarser = λ x y e. m.coarser x y (inv.coarser x y e);
      extends = extends_more c.args.state.now c.loop-pair.state c.merge.new.state inv.extends (record { class = m.extends.class; next = m.extends.next; size = m.extends.size; links = m.extends.links; table = m.extends.table; facts = m.extends.facts; entered = m.extends.entered });
    }

pub returns-in_err-merge-clause-extends : goal.returns-in_err-merge-clause-extends
returns-in_err-merge-clause-extends c =
    let m = c.in_err-merge.ensures in
    extends_more c.args.state.now c.loop-pair.state c.merge.new.state c.loop-pair.invariant.extends (record { class = m.extends.class; next = m.extends.next; size = m.extends.size; links = m.extends.links; table = m.extends.table; facts = m.extends.facts; entered = m.extends.entered })

pub returns-clause-working : goal.returns-clause-working
returns-clause-working c = subst (λ (ws : List (ℕ × ℕ)). IsWorking c.args.members.now (cells_of c.loop-pair.state) ws) c.in_default.ensures.none (working_left c.args.members.now (cells_of c.loop-pair.state) c.loop-pair.state.waiting.items c.last_open.new.waiting.items c.loop-pair.invariant.working c.in_default.ensures.left)
