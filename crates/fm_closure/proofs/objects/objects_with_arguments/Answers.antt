use Rattle.std.proofs.lemmas.List.Elements.{All-weaker}
use Rattle.fm_base.specs.declared.ids.TermId.{TermId}
use Rattle.std.proofs.Common.{◌≡◌, true}
use Rattle.fm_bank.specs.Closure.{object}
use Rattle.fm_closure.specs.Classes.{AreThere, is_there, number_of}
use Rattle.fm_closure.proofs.objects.objects_with_arguments.Goals as goal

pub returns-clause-terms : goal.returns-clause-terms
returns-clause-terms c =
    let old = c.in_ok-objects.objects.keys in
    let new = c.put_arguments.new.objects.keys in
    let kept = c.in_ok-put_arguments.ensures.kept in
    All-weaker (λ (t : TermId). is_there old (object t.0) ≡ true) (λ (t : TermId). is_there new (object t.0) ≡ true) (λ t h. kept (object t.0) h) c.args.over.now c.in_ok-objects.ensures.terms

pub returns-clause-sides : goal.returns-clause-sides
returns-clause-sides c =
    let old = c.in_ok-objects.objects.keys in
    let new = c.put_arguments.new.objects.keys in
    let kept = c.in_ok-put_arguments.ensures.kept in
    All-weaker (AreThere old) (AreThere new) (λ f h. (kept (number_of f.0) h.0, kept (number_of f.1) h.1)) c.args.facts.now c.in_ok-objects.ensures.sides
