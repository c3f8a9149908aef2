use Rattle.std.proofs.Common.{◌≡◌, ◌++◌, List, ap, sym, subst, ◌∙◌}
use Rattle.fm_base.specs.declared.ids.TermId.{TermId}
use Rattle.fm_bank.specs.Terms.{numbers}
use Rattle.fm_closure.specs.Facts.{facts_in}
use Rattle.fm_cert.specs.Lines.{terms_of_clause}
use Rattle.fm_blocks.specs.Conflicts.{ClosesOver}
use Rattle.fm_blocks.proofs.ConflictLaws.{conflict_no, conflict_yes, roots_below}
use Rattle.fm_blocks.proofs.conflict.closes.Goals as goal

pub subterms_of-requires : goal.subterms_of-requires
subterms_of-requires c =
    let roots : numbers c.as_slice.result.now ≡ terms_of_clause c.args.lits.now ++ numbers c.args.support.now = ap numbers c.as_slice.ensures.value ∙ c.in_ok-roots.ensures in
    record { roots = roots_below c.args.bank.now.sig c.args.bank.now.terms c.args.lits.now (numbers c.args.support.now) c.as_slice.result.now c.requires.lits c.requires.support roots }

pub returns-clause-yes : goal.returns-clause-yes
returns-clause-yes c = λ e.
    let roots : numbers c.as_slice.result.now ≡ terms_of_clause c.args.lits.now ++ numbers c.args.support.now = ap numbers c.as_slice.ensures.value ∙ c.in_ok-roots.ensures in
    let terms = c.args.bank.now.terms in
    let closes = subst (λ (ks : List TermId). ClosesOver terms ks c.in_ok-eqs.eqs c.args.lits.now) c.as_slice-2.ensures.value (c.in_ok-found.ensures.yes e) in
    conflict_yes c.args.bank.now.sig terms c.args.lits.now (numbers c.args.support.now) (numbers c.as_slice.result.now) (numbers c.in_ok-over.over.items) (facts_in c.in_ok-eqs.eqs) c.requires.lits c.requires.support roots c.in_ok-over.ensures.subterms c.in_ok-eqs.ensures closes

pub returns-clause-no : goal.returns-clause-no
returns-clause-no c = λ e.
    let roots : numbers c.as_slice.result.now ≡ terms_of_clause c.args.lits.now ++ numbers c.args.support.now = ap numbers c.as_slice.ensures.value ∙ c.in_ok-roots.ensures in
    let terms = c.args.bank.now.terms in
    let refuses = λ (h : ClosesOver terms c.in_ok-over.over.items c.in_ok-eqs.eqs c.args.lits.now). c.in_ok-found.ensures.no e (subst (λ (ks : List TermId). ClosesOver terms ks c.in_ok-eqs.eqs c.args.lits.now) (sym c.as_slice-2.ensures.value) h) in
    conflict_no c.args.bank.now.sig terms c.args.lits.now (numbers c.args.support.now) (numbers c.as_slice.result.now) (numbers c.in_ok-over.over.items) (facts_in c.in_ok-eqs.eqs) roots c.in_ok-over.ensures.subterms c.in_ok-eqs.ensures refuses
