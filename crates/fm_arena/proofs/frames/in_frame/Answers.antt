use Rattle.std.proofs.Common.{ap, sym, ◌∙◌}
use Rattle.fm_arena.proofs.Giving.{given_read}
use Rattle.fm_arena.specs.Frames.{framed, names_at}
use Rattle.fm_arena.specs.Meanings.{terms_of}
use Rattle.fm_arena.specs.declared.frames.Frame.{Frame}
use Rattle.fm_arena.proofs.frames.in_frame.Goals as goal

pub returns-in-Some-get-clause-tree : goal.returns-in-Some-get-clause-tree
returns-in-Some-get-clause-tree c =
    λ fs d.
    let names = names_at fs c.args.outer in
    given_read (terms_of c.in-Args.before.now) c.in-Args.args.now c.args.place c.in-Some-get.arg.now names d c.in-Some-get.ensures.lookup.3.0 (c.in-Some-get.ensures.lookup.3.1 0)
    ∙ ap (λ (f : Frame). framed names f c.args.place d) (sym c.in-Args.is)
