use Rattle.std.proofs.Common.{ℕ, [], ◌∷◌, ◌++◌, Option, sym, ap, ◌∙◌, append-nil}
use Rattle.std.specs.List.{cons_option}
use Rattle.std.proofs.lemmas.List.{map-append}
use Rattle.fm_base.specs.declared.ids.TermId.{TermId}
use Rattle.fm_bank.specs.Terms.{numbers}
use Rattle.fm_explain.proofs.Supporting.{no_term, term_here}
use Rattle.fm_explain.proofs.collecting.push_term.Goals as goal

pub returns-then-node-lt2 : goal.returns-then-node-lt2
returns-then-node-lt2 c = sym (append-nil (numbers c.args.terms.now.items)) ∙ ap (λ (o : Option ℕ). numbers c.args.terms.now.items ++ cons_option o []) (sym (no_term c.args.node c.if-node-lt2.true))

pub returns : goal.returns
returns c = ap numbers c.in_ok-push.ensures.items ∙ (map-append (λ (t : TermId). t.0) c.args.terms.now.items (record { 0 = _ } ∷ []) ∙ ap (λ (o : Option ℕ). numbers c.args.terms.now.items ++ cons_option o []) (sym (term_here c.args.node c.if-node-lt2.false)))
