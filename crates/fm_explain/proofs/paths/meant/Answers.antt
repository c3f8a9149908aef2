use Rattle.std.proofs.Common.{◌≡◌, ℕ, List, length, true, ◌↔◌, ◌⊎◌, subst, arith}
use Rattle.fm_cells.specs.Forest.{link_of}
use Rattle.fm_cong.specs.Paths.{IsOnPath}
use Rattle.fm_cells.specs.Members.{is_on}
use Rattle.fm_explain.proofs.Arguments.{few, searching_end, searching_start, searching_step}
use Rattle.fm_explain.proofs.paths.meant.Goals as goal

pub loop-next-init : goal.loop-next-init
loop-next-init c =
    let has = subst (λ (old : List ℕ). (e : ℕ) → (is_on c.add_path.new.met.keys e ≡ true) ↔ ((is_on old e ≡ true) ⊎ IsOnPath (link_of c.args.links.now) c.args.a c.args.b e)) c.new-met.ensures.empty c.in_ok-add_path.ensures.has in
    searching_start c.args.bank.now.terms c.args.links.now c.args.a c.args.b c.add_path.new.met.keys has

pub loop-next-smaller : goal.loop-next-smaller
loop-next-smaller c =
    let long = few c.loop-next.met.keys (length c.args.links.now) c.len.ensures.unique c.loop-next.invariant.linked in
    omega (arith, long, c.loop-next-test.true, c.len.ensures.len)

pub loop-next-preserved : goal.loop-next-preserved
loop-next-preserved c =
    searching_step c.args.bank.now.terms c.args.links.now c.args.a c.args.b c.loop-next.met.keys c.expand.new.met.keys c.loop-next.next c.met_at-node.result c.loop-next.invariant c.met_at-node.ensures c.in_ok-expand.ensures.kept c.in_ok-expand.ensures.has c.in_ok-expand.ensures.only c.in_ok-expand.ensures.grown

pub returns-clause-meant : goal.returns-clause-meant
returns-clause-meant c = searching_end c.args.bank.now.terms c.args.links.now c.args.a c.args.b c.loop-next.met.keys c.loop-next.next c.loop-next.invariant (omega (arith, c.loop-next-test.false, c.len.ensures.len))

pub returns-clause-once : goal.returns-clause-once
returns-clause-once c = c.len.ensures.unique
