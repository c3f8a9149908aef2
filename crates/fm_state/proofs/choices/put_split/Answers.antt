use Rattle.std.proofs.Common.{◌≡◌, ◌++◌, ℕ, Some, None, ap, sym, ◌∙◌}
use Rattle.std.specs.Prelude.{Option}
use Rattle.std.proofs.lemmas.List.{append-nil}
use Rattle.fm_state.specs.Groups.{pair_of}
use Rattle.fm_state.specs.Offers.{offers_in}
use Rattle.fm_state.proofs.Cliques.{on_ok}
use Rattle.fm_state.proofs.Deciding.{no_pair, some_pair}
use Rattle.fm_state.proofs.choices.put_split.Goals as goal

pub returns-in-None : goal.returns-in-None
returns-in-None c = λ p at.
    let old = offers_in c.args.offers.now.items in
    let none : ◌≡◌ {A = Option (ℕ × ℕ)} None (pair_of p) = c.in-None.ensures p at in
    sym (append-nil old) ∙ ap (λ l. old ++ l) (sym (no_pair c.args.state.now p none))

pub returns-in-Some : goal.returns-in-Some
returns-in-Some c = on_ok c.put_pair.result c.put_pair.ensures (λ e p at.
    let old = offers_in c.args.offers.now.items in
    let some : ◌≡◌ {A = Option (ℕ × ℕ)} (Some (c.in-Some.a.0, c.in-Some.b.0)) (pair_of p) = c.in-Some.ensures p at in
    e ∙ ap (λ l. old ++ l) (some_pair c.args.state.now p (c.in-Some.a.0, c.in-Some.b.0) some))
