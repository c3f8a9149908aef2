use Rattle.std.proofs.Common.{ap, sym, ◌∙◌}
use Rattle.std.specs.Prelude.{◌==◌}
use Rattle.std.proofs.lemmas.Bool.{eqb-false, eqb-true}
use Rattle.fm_blocks.specs.Endings.{sum_of}
use Rattle.fm_blocks.proofs.EndingLaws.{model_sum}
use Rattle.fm_blocks.proofs.ending.is_model.Goals as goal

pub are_true-requires : goal.are_true-requires
are_true-requires c = (c.args.sig.now, c.requires.fits, c.requires.closed)

pub returns-then-not-add_up-clause-no : goal.returns-then-not-add_up-clause-no
returns-then-not-add_up-clause-no c = λ _ h.
    let model = c.args.model.now in
    let other = sym (ap (λ ks. sum_of ks == c.args.sum) c.as_slice.ensures) ∙ (sym c.add_up.ensures ∙ c.if-not-add_up.true) in
    eqb-false (sum_of model.sizes) c.args.sum other (sym (model_sum c.args.sig.now model c.requires.fits) ∙ h.1)

pub returns-clause-yes : goal.returns-clause-yes
returns-clause-yes c = λ e.
    let model = c.args.model.now in
    let same = sym (ap (λ ks. sum_of ks == c.args.sum) c.as_slice.ensures) ∙ (sym c.add_up.ensures ∙ c.if-not-add_up.false) in
    (record { interprets = c.tables_interpret.ensures c.args.sig.now model c.requires.fits; satisfies = c.in_ok-all.ensures.yes e }, model_sum c.args.sig.now model c.requires.fits ∙ eqb-true (sum_of model.sizes) c.args.sum same)

pub returns-clause-no : goal.returns-clause-no
returns-clause-no c = λ e h. c.in_ok-all.ensures.no e h.0.satisfies
