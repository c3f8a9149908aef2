use Rattle.std.proofs.Common.{◌≡◌, [], length, sym, subst, ap, ◌∙◌, arith}
use Rattle.fm_cells.specs.Forest.{trimmed}
use Rattle.fm_cong.specs.Graphs.{cells_of}
use Rattle.fm_cong.specs.Levels.{IsSteady}
use Rattle.fm_cong.specs.declared.state.State.{State}
use Rattle.fm_cong.proofs.Nothing.{no_cells, steady_none}
use Rattle.fm_cong.proofs.nodes.empty_state.Goals as goal

pub returns : goal.returns
returns c =
    let s : State = record { classes = c.new.result; links = c.new-2.result; table = c.new-3.result; waiting = c.new-4.result; facts = c.new-5.result; entered = 0 } in
    let k = c.in_ok-reach_node.ensures.keeps in
    let class = c.new.ensures.class in
    let next = c.new.ensures.next in
    let size = c.new.ensures.size in
    let links = c.new-2.ensures.cells in
    let entries = c.new-3.ensures.empty in
    let facts = c.new-5.ensures.items in
    let time = ap length c.new-2.ensures.log in
    let is : no_cells ≡ cells_of s = sym (λ i. record { class = class i; next = next i; size = size i; links = links i; entries = entries i; facts = facts i; entered = 0; time = time i }) in
    record {
      steady = k.steady [] (subst (IsSteady []) is steady_none);
      quiet = k.quiet ∙ c.new-4.ensures.items;
      facts = k.facts ∙ c.new-5.ensures.items;
      entered = k.entered;
      objects = omega (arith, c.in_ok-reach_node.ensures.there);
      links = k.links ∙ ap trimmed c.new-2.ensures.cells;
    }
