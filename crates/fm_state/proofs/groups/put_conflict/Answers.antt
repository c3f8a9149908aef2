use Rattle.std.proofs.Common.{◌≡◌, ◌++◌, ◌∷◌, [], List, ap, sym, subst, ◌∙◌}
use Rattle.std.specs.Prelude.{OnOk}
use Rattle.std.proofs.lemmas.List.{append-nil}
use Rattle.fm_sat.specs.Store.{HasNoFalse, IsFirstFalse}
use Rattle.fm_steps.specs.Menu.{conflict_at, conflicts_from}
use Rattle.fm_steps.specs.Rows.{Offer}
use Rattle.fm_steps.specs.State.{Clause, Trail}
use Rattle.fm_state.specs.Offers.{offer_in, offers_in}
use Rattle.fm_state.proofs.Conflicts.{first_from, none_from}
use Rattle.fm_state.proofs.Rows.{from_nought}
use Rattle.fm_state.proofs.groups.put_conflict.Goals as goal

pub returns-in-None : goal.returns-in-None
returns-in-None c =
    let s = c.args.state.now in
    let old = offers_in c.args.offers.now.items in
    let none : HasNoFalse c.store.result.now.clauses c.trail.result.now.entries = c.in-None.ensures.none in
    let here : HasNoFalse s.clauses s.trail.entries = subst (λ (cs : List Clause). HasNoFalse cs s.trail.entries) c.store.ensures (subst (λ (t : Trail). HasNoFalse c.store.result.now.clauses t.entries) c.trail.ensures none) in
    sym (append-nil old) ∙ ap (λ l. old ++ l) (sym (none_from 0 s.trail.entries s.clauses here))

pub returns-in-Some : goal.returns-in-Some
returns-in-Some c =
    let s = c.args.state.now in
    let n = c.in-Some.number in
    let old = offers_in c.args.offers.now.items in
    let some : IsFirstFalse c.store.result.now.clauses c.trail.result.now.entries n = c.in-Some.ensures.some in
    let here : IsFirstFalse s.clauses s.trail.entries n = subst (λ (cs : List Clause). IsFirstFalse cs s.trail.entries n) c.store.ensures (subst (λ (t : Trail). IsFirstFalse c.store.result.now.clauses t.entries n) c.trail.ensures some) in
    let first = first_from 0 n s.trail.entries s.clauses here.clause here.stored here.falsified here.first in
    let it : offer_in c.conflict_at.result ∷ [] ≡ conflicts_from 0 s.trail.entries s.clauses = ap (λ o. o ∷ []) (c.conflict_at.ensures here.clause here.stored) ∙ sym (first ∙ ap (λ k. conflict_at k s.trail.entries here.clause ∷ []) (from_nought n)) in
    subst (λ (l : List Offer). OnOk c.put.result (offers_in c.put.new.offers.items ≡ old ++ l)) it c.put.ensures
