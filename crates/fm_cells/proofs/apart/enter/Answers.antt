use Rattle.std.proofs.Common.{◌∙◌, inl, inr}
use Rattle.fm_cells.specs.Apart.{left_node, right_node}
use Rattle.fm_cells.proofs.Keying.{got, key_or}
use Rattle.fm_cells.proofs.apart.enter.Goals as goal

pub returns-clause-sound : goal.returns-clause-sound
returns-clause-sound c = λ k d h.
    let cells = c.args.class.now.cells.items in
    let p = c.args.pair in
    elim (key_or c.args.keys.now.keys c.insert.new.self.keys (record { left = c.get-left.result; right = c.get-right.result }) c.in_ok-insert.ensures.keys k d h) [
      | inl old ↦ inl old
      | inr new ↦ inr (new.0 ∙ got cells (left_node p) (left_node p) c.get-left.result c.get-left.ensures, new.1 ∙ got cells (right_node p) (right_node p) c.get-right.result c.get-right.ensures)
    ]
