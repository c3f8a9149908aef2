use Rattle.std.proofs.Common.{◌≡◌, ◌++◌, ◌∷◌, [], ap, ◌∙◌}
use Rattle.std.specs.Prelude.{slice_set}
use Rattle.fm_cong.specs.Tables.{uses_at}
use Rattle.fm_cong.proofs.Noting.{get_any, noted_kept, noted_there}
use Rattle.fm_cong.proofs.registry.note_use.Goals as goal

pub returns-clause-kept : goal.returns-clause-kept
returns-clause-kept c =
    let us = c.args.uses.now.items in
    let at : c.index_mut-list.result.now ≡ uses_at us c.args.node = c.index_mut-list.ensures.value ∙ get_any us c.args.node c.index_mut-list.result.now [] c.requires.node in
    noted_kept us (slice_set us c.args.node c.push.new.self) c.args.node c.args.place c.requires.node (ap (slice_set us c.args.node) (c.in_ok-push.ensures.ok ∙ ap (λ xs. xs ++ c.args.place ∷ []) at))

pub returns-clause-there : goal.returns-clause-there
returns-clause-there c =
    let us = c.args.uses.now.items in
    let at : c.index_mut-list.result.now ≡ uses_at us c.args.node = c.index_mut-list.ensures.value ∙ get_any us c.args.node c.index_mut-list.result.now [] c.requires.node in
    noted_there us (slice_set us c.args.node c.push.new.self) c.args.node c.args.place c.requires.node (ap (slice_set us c.args.node) (c.in_ok-push.ensures.ok ∙ ap (λ xs. xs ++ c.args.place ∷ []) at))
