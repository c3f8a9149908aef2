use Rattle.std.proofs.Common.{ℕ, Bool, not, List, sym, ◌∙◌, arith}
use Rattle.std.specs.Cmp.Lexicographic.{slice_cmp}
use Rattle.std.specs.Ordering.{is_lt, nat_cmp}
use Rattle.fm_build.proofs.Positions.{first_none, first_some, first_within}
use Rattle.fm_build.proofs.entries.place_of.Goals as goal

pub returns-in-Some-clause-place : goal.returns-in-Some-clause-place
returns-in-Some-clause-place c =
    let p : List ℕ × ℕ → Bool = λ (e : List ℕ × ℕ). not (is_lt (slice_cmp nat_cmp e.0 c.args.tuple.now)) in
    first_some p c.args.entries.now c.in-Some.place (sym c.first_behind.ensures ∙ c.in-Some.is)

pub returns-in-Some-clause-within : goal.returns-in-Some-clause-within
returns-in-Some-clause-within c =
    let p : List ℕ × ℕ → Bool = λ (e : List ℕ × ℕ). not (is_lt (slice_cmp nat_cmp e.0 c.args.tuple.now)) in
    omega (arith, first_some p c.args.entries.now c.in-Some.place (sym c.first_behind.ensures ∙ c.in-Some.is), first_within p c.args.entries.now)

pub returns-in-None-clause-place : goal.returns-in-None-clause-place
returns-in-None-clause-place c =
    let p : List ℕ × ℕ → Bool = λ (e : List ℕ × ℕ). not (is_lt (slice_cmp nat_cmp e.0 c.args.tuple.now)) in
    first_none p c.args.entries.now (sym c.first_behind.ensures ∙ c.in-None.is)
