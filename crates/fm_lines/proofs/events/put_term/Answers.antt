use Rattle.std.proofs.Common.{◌∷◌, [], List, ◌++◌, sym, ap, ◌∙◌}
use Rattle.fm_base.specs.declared.ids.TermId.{TermId}
use Rattle.fm_bank.specs.Terms.{application}
use Rattle.fm_cert.specs.declared.block.Line.{Line}
use Rattle.fm_lines.proofs.Placed.{line_is}
use Rattle.fm_lines.proofs.events.put_term.Goals as goal

pub returns : goal.returns
returns c =
    let symbol = c.term.result.0 in
    let args = c.term.result.1.now in
    let old = c.args.lines.now.items in (
      application symbol args,
      c.term.ensures,
      c.in_ok-push.ensures.items ∙ ap (λ (l : Line). old ++ l ∷ []) (ap (λ (ts : List TermId). Line.Term symbol ts) c.in_ok-args.ensures ∙ sym (line_is symbol args)),
    )
