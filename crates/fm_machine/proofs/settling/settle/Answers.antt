use Rattle.std.proofs.Common.{◌≡◌, List, Option, map, true, sym, ap, subst, ◌∙◌}
use Rattle.std.specs.List.{flat_map, list_all}
use Rattle.fm_bank.specs.Interning.{is_atom}
use Rattle.fm_bank.specs.declared.literal.Literal.{Literal}
use Rattle.fm_region.specs.declared.picking.Pick.{Pick as SortPick}
use Rattle.fm_state.specs.Stands.{pick_in}
use Rattle.fm_steps.specs.Picks.{pick_literals}
use Rattle.fm_steps.specs.State.{State, know_all}
use Rattle.fm_machine.proofs.Chosen.{literals_fit, settles, stay_tied}
use Rattle.fm_machine.proofs.settling.settle.Goals as goal

pub know_all-requires : goal.know_all-requires
know_all-requires c =
    let s = c.args.search.now in
    let ps = c.in_ok-picks.picks.items in
    let is = c.as_slice-2.ensures.value ∙ c.in_ok-lits.ensures ∙ ap (λ (qs : List (Option SortPick)). flat_map pick_literals (map pick_in qs)) c.as_slice.ensures.value in
    subst (λ (ls : List Literal). list_all (λ (l : Literal). is_atom s.state.held.sig s.state.held.terms l.atom) ls ≡ true) (sym is) (literals_fit s.state s.congruence s.regions ps c.requires.tied c.in_ok-picks.ensures)

pub returns-clause-settled : goal.returns-clause-settled
returns-clause-settled c =
    let s = c.args.search.now in
    let ps = c.in_ok-picks.picks.items in
    let is = c.as_slice-2.ensures.value ∙ c.in_ok-lits.ensures ∙ ap (λ (qs : List (Option SortPick)). flat_map pick_literals (map pick_in qs)) c.as_slice.ensures.value in
    let known = c.in_ok-know_all.ensures.known ∙ ap (λ (ls : List Literal). know_all ls s.state) is in
    settles s.state c.set_picks.new.self s.congruence s.regions ps c.requires.tied c.in_ok-picks.ensures
    (c.set_picks.ensures ∙ ap (λ (x : State). record x { picks = map pick_in ps }) known)

pub returns-clause-tied : goal.returns-clause-tied
returns-clause-tied c =
    let s = c.args.search.now in
    let ps = c.in_ok-picks.picks.items in
    stay_tied s.state c.set_picks.new.self s.congruence s.regions c.as_slice-2.result.now (map pick_in ps) c.requires.known c.requires.tied
    (c.set_picks.ensures ∙ ap (λ (x : State). record x { picks = map pick_in ps }) c.in_ok-know_all.ensures.known)
