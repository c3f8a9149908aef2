use Rattle.std.proofs.Common.{◌≡◌, ◌++◌, ◌∷◌, [], ◌∙◌, ap, sym, subst}
use Rattle.std.specs.List.{Contains}
use Rattle.std.proofs.lemmas.List.Elements.{Contains-append_left, Contains-push}
use Rattle.fm_cells.specs.Apart.{places_at}
use Rattle.fm_cells.proofs.Keying.{get_any, places_set, set_there}
use Rattle.fm_cells.proofs.apart.note_side.Goals as goal

pub returns-in_err-push-clause-kept : goal.returns-in_err-push-clause-kept
returns-in_err-push-clause-kept c = λ x i h.
    let us = c.reach_sides.new.sides.items in
    let lt = c.in_ok-reach_sides.ensures.there in
    let at : c.index_mut-list.result.now ≡ places_at us c.args.node = c.index_mut-list.ensures.value ∙ get_any us c.args.node c.index_mut-list.result.now [] lt in
    places_set us c.args.node c.push.new.self lt (λ n k. subst (λ xs. Contains xs n) (sym (c.in_err-push.ensures.err ∙ at)) k) x i (subst (λ xs. Contains xs i) (sym (c.in_ok-reach_sides.ensures.same x)) h)

pub returns-clause-kept : goal.returns-clause-kept
returns-clause-kept c = λ x i h.
    let us = c.reach_sides.new.sides.items in
    let lt = c.in_ok-reach_sides.ensures.there in
    let at : c.index_mut-list.result.now ≡ places_at us c.args.node = c.index_mut-list.ensures.value ∙ get_any us c.args.node c.index_mut-list.result.now [] lt in
    places_set us c.args.node c.push.new.self lt (λ n k. subst (λ xs. Contains xs n) (sym (c.in_ok-push.ensures.ok ∙ ap (λ xs. xs ++ c.args.place ∷ []) at)) (Contains-append_left (places_at us c.args.node) (c.args.place ∷ []) n k)) x i (subst (λ xs. Contains xs i) (sym (c.in_ok-reach_sides.ensures.same x)) h)

pub returns-clause-there : goal.returns-clause-there
returns-clause-there c =
    let us = c.reach_sides.new.sides.items in
    set_there us c.args.node c.push.new.self c.args.place c.in_ok-reach_sides.ensures.there (subst (λ xs. Contains xs c.args.place) (sym c.in_ok-push.ensures.ok) (Contains-push c.index_mut-list.result.now c.args.place))
