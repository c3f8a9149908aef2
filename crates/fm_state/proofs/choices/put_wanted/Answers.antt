use Rattle.std.proofs.Common.{◌≡◌, ◌++◌, ◌<◌, ◌≤◌, ◌&&◌, ℕ, Bool, false, Some, get_or, length, ap, sym, subst, ◌∙◌, drop}
use Rattle.std.specs.Prelude.{slice_get}
use Rattle.std.specs.List.{flat_map, range_with_len}
use Rattle.std.proofs.lemmas.Option.{get_or_from_slice_get}
use Rattle.fm_bank.specs.Interning.{Held}
use Rattle.fm_steps.specs.Menu.{both_ways, clause_atoms, is_wanted}
use Rattle.fm_steps.specs.Sizes.{is_unvalued}
use Rattle.fm_state.specs.Groups.{both_if}
use Rattle.fm_state.specs.Offers.{offers_in}
use Rattle.fm_state.proofs.Filling.{ended, flat_on, past_range, range_at}
use Rattle.fm_state.proofs.choices.put_wanted.Goals as goal

pub loop-number-preserved : goal.loop-number-preserved
loop-number-preserved c =
    let s = c.args.state.now in
    let i = c.loop-number.number in
    let n = length s.held.atoms in
    let a = c.atom_of.result in
    let old = offers_in c.loop-number.offers.items in
    let lt : i < n = subst (λ m. i < m) (c.atoms-number-end.ensures ∙ ap (λ (h : Held). length h.atoms) c.bank.ensures) c.loop-number-test.true in
    let at : slice_get s.held.atoms i ≡ Some a = subst (λ (h : Held). slice_get h.atoms i ≡ Some a) c.bank-in-loop-number.ensures c.atom_of.ensures in
    let mark : get_or c.args.marks.now i false ≡ is_wanted s i = get_or_from_slice_get c.args.marks.now i (is_wanted s i) false (c.requires.1 i lt) in
    let put = c.in_ok-put_both_ways.ensures ∙ ap (λ (b : Bool). old ++ both_if (is_unvalued s a && b) a) mark ∙ ap (λ o. old ++ both_ways s i o) (sym at) in
    flat_on (λ m. both_ways s m (slice_get s.held.atoms m)) (range_with_len 0 n) i i old (offers_in c.put_both_ways.new.offers.items) (offers_in c.args.offers.now.items) (clause_atoms s) (range_at n i lt) put c.loop-number.invariant

pub returns : goal.returns
returns c =
    let s = c.args.state.now in
    let i = c.loop-number.number in
    let n = length s.held.atoms in
    let f = λ (m : ℕ). both_ways s m (slice_get s.held.atoms m) in
    let past : n ≤ i = subst (λ m. m ≤ i) (c.atoms-number-end.ensures ∙ ap (λ (h : Held). length h.atoms) c.bank.ensures) c.loop-number-test.false in
    ended c.args.limit (offers_in c.loop-number.offers.items) (flat_map f (drop i (range_with_len 0 n))) (offers_in c.args.offers.now.items ++ clause_atoms s) (past_range f n i past) c.loop-number.invariant
