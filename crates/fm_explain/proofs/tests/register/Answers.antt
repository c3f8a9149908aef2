use Rattle.std.proofs.Common.{◌≡◌, Option, Some, subst}
use Rattle.std.specs.Prelude.{slice_get}
use Rattle.std.specs.List.{All}
use Rattle.fm_bank.specs.Terms.{Term, application}
use Rattle.fm_cong.specs.Held.{IsRegistered}
use Rattle.fm_explain.proofs.Knowing.{known_registering}
use Rattle.fm_explain.proofs.tests.register.Goals as goal

one_term : (o : Option Term) (s t : Term) → o ≡ Some s → o ≡ Some t → s ≡ t
one_term o s t p q = cc

pub add_term-requires-clause-args : goal.add_term-requires-clause-args
add_term-requires-clause-args g c = λ t there.
    let s = application c.term.result.0 c.term.result.1.now in
    let same : s ≡ t = one_term (slice_get c.args.bank.now.terms c.args.term.0) s t c.term.ensures there in
    subst (λ (x : Term). All (IsRegistered c.args.graph.now.shapes) x.args) same (c.are_registered.ensures c.if-are_registered.true)

pub returns-then-are_registered : goal.returns-then-are_registered
returns-then-are_registered g c = known_registering c.add_term.result c.args.graph.now c.add_term.new.self c.args.bank.now c.args.term.0 c.requires c.add_term.ensures.registered c.add_term.ensures.err
