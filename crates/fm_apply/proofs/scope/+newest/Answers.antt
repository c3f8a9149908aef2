use Rattle.std.proofs.Common.{List, ap, ℕ, ◌∙◌}
use Rattle.fm_apply.specs.Scoped.{newest_number, zipped}
use Rattle.fm_apply.proofs.Naming.{newest_found, newest_outer}
use Rattle.fm_apply.proofs.scope.+newest.Goals as goal

pub returns-in-None : goal.returns-in-None
returns-in-None t c =
    newest_outer c.args.frame.now c.in-Inner.outer c.in-Inner.places c.in-Inner.names c.in-Inner.numbers c.args.name.now c.newest.result c.in-Inner.is
    (c.in-None.ensures ∙ ap (λ (is : List ℕ). newest_number 0 c.args.name.now (zipped c.in-Inner.names is)) c.as_slice.ensures) c.newest.ensures

pub returns-in-Some : goal.returns-in-Some
returns-in-Some t c =
    newest_found c.args.frame.now c.in-Inner.outer c.in-Inner.places c.in-Inner.names c.in-Inner.numbers c.args.name.now c.in-Some.found c.behind.result c.in-Inner.is
    (c.in-Some.ensures ∙ ap (λ (is : List ℕ). newest_number 0 c.args.name.now (zipped c.in-Inner.names is)) c.as_slice.ensures) c.behind.ensures
