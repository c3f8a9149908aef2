use Rattle.std.proofs.Common.{◌≡◌, Option, Some, subst}
use Rattle.std.specs.Prelude.{slice_get}
use Rattle.std.specs.List.{All}
use Rattle.fm_bank.specs.Terms.{Term, application}
use Rattle.fm_cong.specs.Held.{IsRegistered}
use Rattle.fm_cong.proofs.tests.add.Goals as goal

one_term : (o : Option Term) (s t : Term) → o ≡ Some s → o ≡ Some t → s ≡ t
one_term o s t p q = cc

pub add_term-requires-clause-args : goal.add_term-requires-clause-args
add_term-requires-clause-args g c = λ t there.
    let s = application c.term.result.0 c.term.result.1.now in
    let same : s ≡ t = one_term (slice_get c.args.bank.now.terms c.args.term.0) s t c.term.ensures there in
    subst (λ (x : Term). All (IsRegistered c.args.graph.now.shapes) x.args) same (c.are_registered.ensures c.if-are_registered.true)
