use Rattle.std.proofs.Common.{◌≡◌, ap, ◌∙◌}
use Rattle.fm_base.specs.Interpretations.{names_its_sorts}
use Rattle.fm_elab.specs.Held.{state_of}
use Rattle.fm_elab.proofs.SortedStates.{problem_sorted}
use Rattle.fm_check.proofs.Finding.{closed_now, next_bad, next_end, next_good}
use Rattle.fm_check.proofs.progress.check_one.Goals as goal

pub check_next-requires-clause-names : goal.check_next-requires-clause-names
check_next-requires-clause-names c = ap names_its_sorts c.in_ok-problem.ensures.sig ∙ (problem_sorted (state_of c.args.scopes.now) c.requires.sorted).ranks

pub check_next-requires-clause-closed : goal.check_next-requires-clause-closed
check_next-requires-clause-closed c = closed_now (state_of c.args.scopes.now) c.in_ok-problem.problem.sig c.in_ok-problem.problem.assertions.now c.requires.sorted c.in_ok-problem.ensures.sig c.in_ok-problem.ensures.assertions

pub returns-in-Good : goal.returns-in-Good
returns-in-Good c = next_good (state_of c.args.scopes.now) c.in_ok-problem.problem.sig c.in_ok-problem.problem.assertions.now c.in_ok-table.table c.args.reader.now c.check_next.new.reader c.in_ok-claim.field-0 c.in-Good.claim c.args.claims.now.items c.as_slice.result.now c.push.new.self.items c.in_ok-problem.ensures.sig c.in_ok-problem.ensures.assertions c.in_ok-table.ensures c.as_slice.ensures.value c.in-Good.is c.in_ok-claim.ensures c.in_ok-push-in-Good.ensures.items

pub returns-in-Bad : goal.returns-in-Bad
returns-in-Bad c = next_bad (state_of c.args.scopes.now) c.in_ok-problem.problem.sig c.in_ok-problem.problem.assertions.now c.in_ok-table.table c.args.reader.now c.check_next.new.reader c.in_ok-claim.field-0 c.in-Bad.fault c.args.claims.now.items c.as_slice.result.now c.args.claims.now.items c.in_ok-problem.ensures.sig c.in_ok-problem.ensures.assertions c.in_ok-table.ensures c.as_slice.ensures.value c.in-Bad.is c.in_ok-claim.ensures

pub returns : goal.returns
returns c = next_end (state_of c.args.scopes.now) _ c.args.reader.now c.check_next.new.reader _ c.in_ok-claim.field-0 c.args.claims.now.items c.in-End.is c.in_ok-claim.ensures
