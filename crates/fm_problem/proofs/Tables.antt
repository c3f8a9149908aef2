-- The clause table of closed assertions, by the law that models are expansions.
use Rattle.std.proofs.Common.{refl}
use Rattle.fm_clauses.proofs.ModelLaws.{expand}
use Rattle.fm_problem.specs.Tabled.{ClosedHaveTables}

pub closed_have_tables : ClosedHaveTables
closed_have_tables sig assertions closed = record {
  sorts = refl;
  expands = λ m is. let x = expand sig assertions m closed is in (x.at, x.interprets, x.satisfies);
}
