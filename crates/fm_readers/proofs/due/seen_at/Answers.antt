use Rattle.std.proofs.Common.{inl, inr, refl}
use Rattle.fm_readers.proofs.due.seen_at.Goals as goal

pub returns-then-are_both-clause-some : goal.returns-then-are_both-clause-some
returns-then-are_both-clause-some c =
    let p = c.are_both.ensures.0 c.if-are_both.true in
    record { left = refl; right = refl; near = p.0; far = p.1; ways = inl (refl, refl) }

pub returns-then-are_both-2-clause-some : goal.returns-then-are_both-2-clause-some
returns-then-are_both-2-clause-some c =
    let p = c.are_both-2.ensures.0 c.if-are_both-2.true in
    record { left = refl; right = refl; near = p.0; far = p.1; ways = inr (refl, refl) }
