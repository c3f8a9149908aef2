use Rattle.std.proofs.Common.{sym, subst}
use Rattle.fm_candidate.specs.Found.{IsFound}
use Rattle.fm_candidate.specs.declared.found.Found.{Found}
use Rattle.fm_candidate.proofs.Lasting.{are_over, found, is_bank, true_in}
use Rattle.fm_candidate.proofs.last.first_failing.Goals as goal
use Rattle.fm_rounds.specs.Failing.{numbered}
use Rattle.fm_rounds.specs.Rounds.{content_of}

pub candidate-requires-clause-bank : goal.candidate-requires-clause-bank
candidate-requires-clause-bank c =
    is_bank c.args.clauses.now c.args.bank.now c.args.graph.now (numbered c.args.added.now) c.requires.clauses c.requires.last
    c.states_are_known.ensures.known c.contents_are_grounded.ensures.grounded c.contents_are_grounded.ensures.sorted c.terms_stay_held.ensures.runs c.has_tests.ensures

pub candidate-requires-clause-added : goal.candidate-requires-clause-added
candidate-requires-clause-added c =
    are_over c.args.clauses.now c.args.bank.now c.args.graph.now (numbered c.args.added.now) c.requires.clauses c.requires.last
    c.contents_are_grounded.ensures.added c.contents_are_grounded.ensures.sorted

pub failing-requires-clause-added : goal.failing-requires-clause-added
failing-requires-clause-added c =
    true_in c.args.clauses.now c.args.bank.now c.args.graph.now (numbered c.args.added.now) c.requires.clauses c.requires.last
    c.states_are_known.ensures.known c.offered_instances_are_met.ensures.added c.has_tests.ensures c.in_ok-suggested.suggested c.in_ok-suggested.ensures.candidate

pub returns : goal.returns
returns c = λ t h. subst (λ (f : Found). IsFound c.args.clauses.now (content_of c.args.clauses.now c.args.bank.now.terms t.same (numbered c.args.added.now)) f) (sym c.outcome.ensures)
    (found c.args.clauses.now c.args.bank.now c.args.graph.now (numbered c.args.added.now) c.requires.clauses c.requires.last
    c.states_are_known.ensures.known c.contents_are_grounded.ensures.grounded c.tables_read_alike.ensures c.in_ok-suggested.suggested c.in_ok-suggested.ensures.candidate
    c.in_ok-suggested.ensures.fits c.in_ok-first.first c.in_ok-first.ensures.first c.in_ok-first.ensures.least t h)
