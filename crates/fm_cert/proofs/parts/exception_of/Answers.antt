use Rattle.std.proofs.Common.{sym, ◌∙◌}
use Rattle.fm_cert.proofs.PartLists.{exception_none, exception_some, exception_stop}
use Rattle.fm_cert.proofs.parts.exception_of.Goals as goal

pub returns-in_default-number_of : goal.returns-in_default-number_of
returns-in_default-number_of c = exception_stop (λ s. s.now) c.args.parts.now c.in-Some.tuple.now _ c.in-Some.ensures.cases.0 c.in_default-number_of.ensures

pub returns-in-Some-2 : goal.returns-in-Some-2
returns-in-Some-2 c = exception_some (λ s. s.now) c.args.parts.now c.in-Some.tuple.now _ c.in-Some.ensures.cases.0 c.in-Some-number_of.value c.in-Some-2.tuple c.in-Some-number_of.ensures (sym c.in-Some-2.is ∙ c.in_ok-tuple.ensures)

pub returns-in-None : goal.returns-in-None
returns-in-None c = exception_none (λ s. s.now) c.args.parts.now c.in-Some.tuple.now _ c.in-Some.ensures.cases.0 c.in-Some-number_of.value c.in-Some-number_of.ensures (sym c.in-None.is ∙ c.in_ok-tuple.ensures)
