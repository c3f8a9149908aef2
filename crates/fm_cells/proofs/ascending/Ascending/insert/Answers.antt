use Rattle.std.proofs.Common.{◌≡◌, cond, sym, subst, ap, ◌∙◌, arith}
use Rattle.std.specs.List.{insert}
use Rattle.fm_cells.specs.Ascending.{IsAscending}
use Rattle.fm_cells.proofs.Placing.{put_ascending, put_others}
use Rattle.fm_cells.proofs.ascending.Ascending.insert.Goals as goal

pub invariant_of-self : goal.invariant_of-self
invariant_of-self c =
    let f = c.args.self.now in
    let xs = f.items.items in
    let in_place : c.insert.new.self.items ≡ insert c.args.self.now.items.items c.args.place c.args.term = c.insert.ensures.items ∙ ap (λ b. cond b (insert c.args.self.now.items.items c.args.place c.args.term) c.args.self.now.items.items) (c.insert.ensures.succeeds (omega (arith, f.items.ok.0, c.requires.room))) in
    record { ascending = subst IsAscending (sym in_place) (put_ascending xs f.ascending c.args.term c.args.place c.requires.place c.requires.absent) }

pub returns-clause-others : goal.returns-clause-others
returns-clause-others c =
    let f = c.args.self.now in
    let in_place : c.insert.new.self.items ≡ insert c.args.self.now.items.items c.args.place c.args.term = c.insert.ensures.items ∙ ap (λ b. cond b (insert c.args.self.now.items.items c.args.place c.args.term) c.args.self.now.items.items) (c.insert.ensures.succeeds (omega (arith, f.items.ok.0, c.requires.room))) in
    put_others f.items.items f.ascending c.args.term c.args.place c.requires.place c.insert.new.self.items in_place
