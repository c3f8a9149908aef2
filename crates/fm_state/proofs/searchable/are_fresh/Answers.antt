use Rattle.std.proofs.Common.{◌≡◌, ◌↔◌, ◌+◌, ◌<◌, map, sym, subst, ap, ◌∙◌}
use Rattle.std.specs.List.{filter, range_with_len}
use Rattle.fm_base.specs.declared.signature.Sig.{Sig}
use Rattle.fm_rounds.specs.Fresh.{constant_of}
use Rattle.fm_state.specs.Begins.{is_bare_in}
use Rattle.fm_state.proofs.Constants.{constant_next, constants_from, no_rank_left, other_next, other_rank_left}
use Rattle.fm_state.proofs.searchable.are_fresh.Goals.{then-has_none_of+in-Some+else-not-is_constant, else-has_none_of}
use Rattle.fm_state.proofs.searchable.are_fresh.Goals as goal

pub returns-in_default : goal.returns-in_default
returns-in_default c =
    let bank = c.args.bank.now in
    let p = is_bare_in bank.sig bank.terms in
    let all = c.args.ranks.now ≡ map constant_of (filter p (range_with_len 0 bank.sig.sorts)) in
    let lt : c.loop-sort.sort < bank.sig.sorts = subst (λ m. c.loop-sort.sort < m) (ap (λ (g : Sig). g.sorts) c.sig.ensures) c.loop-sort-test.true in
    no_rank_left p c.loop-sort.sort bank.sig.sorts c.loop-sort.left.now all lt (sym c.if-has_none_of.ensures) c.in_default.ensures.cases c.loop-sort.invariant

pub returns-then-not-is_constant : goal.returns-then-not-is_constant
returns-then-not-is_constant c =
    let bank = c.args.bank.now in
    let p = is_bare_in bank.sig bank.terms in
    let all = c.args.ranks.now ≡ map constant_of (filter p (range_with_len 0 bank.sig.sorts)) in
    let isnt : c.in-Some.rank.now ≡ constant_of c.loop-sort.sort → ⊥ = λ e. let yes = c.is_constant.ensures.1 e in let no = c.if-not-is_constant.true in cc (yes, no) in
    let lt : c.loop-sort.sort < bank.sig.sorts = subst (λ m. c.loop-sort.sort < m) (ap (λ (g : Sig). g.sorts) c.sig.ensures) c.loop-sort-test.true in
    other_rank_left p c.loop-sort.sort bank.sig.sorts c.loop-sort.left.now c.in-Some.behind.now c.in-Some.rank.now all lt (sym c.if-has_none_of.ensures) c.in-Some.ensures.cases.0 isnt c.loop-sort.invariant

pub loop-sort-preserved : goal.loop-sort-preserved
loop-sort-preserved c =
    let bank = c.args.bank.now in
    let p = is_bare_in bank.sig bank.terms in
    let all = c.args.ranks.now ≡ map constant_of (filter p (range_with_len 0 bank.sig.sorts)) in
    let s = c.loop-sort.sort in
    let n = bank.sig.sorts in
    let rest = constants_from p (s + 1) n in
    let lt : c.loop-sort.sort < bank.sig.sorts = subst (λ m. c.loop-sort.sort < m) (ap (λ (g : Sig). g.sorts) c.sig.ensures) c.loop-sort-test.true in
    elim c.if-has_none_of.branch [
      | then-has_none_of+in-Some+else-not-is_constant w ↦
          let bare = sym c.has_none_of.ensures ∙ w.if-has_none_of.true in
          let is = w.is_constant.ensures.0 w.if-not-is_constant.false in
          subst (λ l. (l.now ≡ rest) ↔ all) (sym w.left-is) (constant_next p s n c.loop-sort.left.now w.in-Some.behind.now w.in-Some.rank.now all lt bare w.in-Some.ensures.cases.0 is c.loop-sort.invariant)
      | else-has_none_of w ↦
          let other = sym c.has_none_of.ensures ∙ w.if-has_none_of.false in
          subst (λ l. (l.now ≡ rest) ↔ all) (sym w.left-is) (other_next p s n c.loop-sort.left.now all lt other c.loop-sort.invariant)
    ]
