use Rattle.std.proofs.Common.{◌≡◌, ◌<◌, Some, None, get_or, length, subst}
use Rattle.std.specs.Prelude.{Option, slice_get}
use Rattle.std.proofs.lemmas.Option.{slice_get-get_or}
use Rattle.fm_steps.specs.Menu.{split_offers}
use Rattle.fm_steps.specs.State.{Pick}
use Rattle.fm_state.specs.Groups.{split_all}
use Rattle.fm_state.specs.Offers.{offers_in}
use Rattle.fm_state.proofs.Filling.{flat_on}
use Rattle.fm_state.proofs.choices.put_splits.Goals as goal

pub loop-sort-preserved : goal.loop-sort-preserved
loop-sort-preserved c =
    let s = c.args.state.now in
    let i = c.loop-sort.sort in
    let lt : i < length s.picks = subst (λ n. i < n) c.pick_count-sort-end.ensures c.loop-sort-test.true in
    let none : Option Pick = None in
    let p : Option Pick = get_or s.picks i none in
    let at : slice_get s.picks i ≡ Some p = slice_get-get_or s.picks i none lt in
    flat_on (split_offers s) s.picks i p (offers_in c.loop-sort.offers.items) (offers_in c.put_split.new.offers.items) (offers_in c.args.offers.now.items) (split_all s) at (c.in_ok-put_split.ensures p at) c.loop-sort.invariant
