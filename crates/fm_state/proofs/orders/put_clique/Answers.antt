use Rattle.std.proofs.Common.{◌≡◌, ◌++◌, Some, None, ap, sym, ◌∙◌}
use Rattle.std.proofs.lemmas.List.{append-nil}
use Rattle.fm_base.specs.declared.ids.Reader.{Reader}
use Rattle.fm_bank.specs.Terms.{numbers}
use Rattle.fm_steps.specs.Lemmas.{Due}
use Rattle.fm_steps.specs.Menu.{offer_for}
use Rattle.fm_state.specs.Groups.{clique_in}
use Rattle.fm_state.specs.Offers.{offers_in}
use Rattle.fm_state.proofs.Cliques.{absent, on_ok, present}
use Rattle.fm_state.proofs.orders.put_clique.Goals as goal

pub returns-in-None : goal.returns-in-None
returns-in-None c = λ p at.
    let s = c.args.state.now in
    let old = offers_in c.args.offers.now.items in
    let none : None ≡ clique_in p = c.in-None.ensures p at in
    sym (append-nil old) ∙ ap (λ l. old ++ l) (sym (absent s c.args.sort p none))

pub returns-in_ok-literals-in-Some : goal.returns-in_ok-literals-in-Some
returns-in_ok-literals-in-Some c = on_ok c.put_lemma.result c.put_lemma.ensures (λ e p at.
    let s = c.args.state.now in
    let u = c.args.sort in
    let old = offers_in c.args.offers.now.items in
    let some : Some (numbers c.in-Some.terms.now) ≡ clique_in p = c.in-Some.ensures p at in
    e ∙ ap (λ ls. old ++ offer_for s Reader.Regions (Due.Clique u) ls) (c.as_slice.ensures.value ∙ c.in_ok-literals-in-Some.ensures) ∙ ap (λ l. old ++ l) (present s u p (numbers c.in-Some.terms.now) some))
