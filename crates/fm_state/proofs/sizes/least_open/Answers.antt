use Rattle.std.proofs.Common.{◌≤◌, false, length, ap, sym, ◌∙◌, arith}
use Rattle.fm_bank.specs.Interning.{Held}
use Rattle.fm_steps.specs.Sizes.{card, holds}
use Rattle.fm_state.proofs.Rows.{false_is_low, open_at}
use Rattle.fm_state.proofs.sizes.least_open.Goals as goal

pub returns-then-not-holds : goal.returns-then-not-holds
returns-then-not-holds c =
    let s = c.args.state.now in
    let u = c.args.sort.0 in
    let i = c.loop-number._number in
    let many = c.atoms-number-end.ensures ∙ ap (λ (h : Held). length h.atoms) c.bank.ensures in
    let within : i ≤ length s.held.atoms = omega (arith, many) in
    let next = c.loop-number.invariant.next in
    open_at s u i c.loop-number.found next within c.loop-number.invariant.before (λ lt. ap (λ k. holds s false (card u k)) (sym next) ∙ sym c.holds.ensures ∙ c.if-not-holds.true)

pub returns : goal.returns
returns c =
    let s = c.args.state.now in
    let u = c.args.sort.0 in
    let i = c.loop-number._number in
    let many = c.atoms-number-end.ensures ∙ ap (λ (h : Held). length h.atoms) c.bank.ensures in
    let within : i ≤ length s.held.atoms = omega (arith, many) in
    open_at s u i c.loop-number.found c.loop-number.invariant.next within c.loop-number.invariant.before (λ lt. absurd (omega (arith, many, lt)))

pub overflow_add-found : goal.overflow_add-found
overflow_add-found c =
    let low = false_is_low c.args.state.now c.args.sort.0 c.loop-number.found c.holds.result c.requires.row c.holds.ensures c.if-not-holds.false in
    let room = c.requires.room in
    omega (arith, low, room)
