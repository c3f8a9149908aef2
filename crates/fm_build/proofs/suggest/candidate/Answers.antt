use Rattle.std.proofs.Common.{true, ◌≡◌, ℕ, List, ◌++◌, length, sym, subst, ap, ◌∙◌}
use Rattle.fm_base.specs.Interpretations.{is_fit}
use Rattle.fm_base.specs.declared.interp.Interp.{Interp}
use Rattle.fm_rounds.specs.Failing.{numbered}
use Rattle.fm_rounds.specs.InstanceTerms.{start_terms}
use Rattle.fm_rounds.proofs.Holds.{candidates_hold}
use Rattle.fm_build.specs.Instancing.{contents_of}
use Rattle.fm_build.specs.Marks.{AreBelow}
use Rattle.fm_build.specs.Parts.{AreClasses, AreTruths, AreTypes, content_by}
use Rattle.fm_build.specs.Reached.{AreInstancesBelow, pairs_of}
use Rattle.fm_build.specs.declared.instance.Instance.{Instance}
use Rattle.fm_build.proofs.Grounding.{classes_below, instances_below, is_content, is_grounded, start_below}
use Rattle.fm_build.proofs.suggest.candidate.Goals as goal

pub assembled-requires-clause-classes : goal.assembled-requires-clause-classes
assembled-requires-clause-classes c =
    subst (λ (class : List ℕ). AreBelow class (length class)) (sym c.as_slice.ensures.value) (classes_below c.args.bank.now c.args.graph.now c.requires.graph c.in_ok-class.class.items c.in_ok-class.ensures)

pub assembled-requires-clause-start : goal.assembled-requires-clause-start
assembled-requires-clause-start c =
    let set = c.args.clauses.now in
    let terms = c.args.bank.now.terms in
    let many : length terms ≡ length c.as_slice.result.now = sym (ap (λ (l : List ℕ). length l) c.as_slice.ensures.value ∙ c.in_ok-class.ensures.many) in
    let start : start_terms set terms ≡ c.as_slice-4.result.now = sym (c.as_slice-4.ensures.value ∙ c.in_ok-start.ensures) in
    subst (AreBelow c.as_slice-4.result.now) many (subst (λ (ns : List ℕ). AreBelow ns (length terms)) start (start_below set terms))

pub assembled-requires-clause-added : goal.assembled-requires-clause-added
assembled-requires-clause-added c =
    let set = c.args.clauses.now in
    let b = c.args.bank.now in
    let terms = b.terms in
    let added = numbered c.args.added.now in
    let many : length terms ≡ length c.as_slice.result.now = sym (ap (λ (l : List ℕ). length l) c.as_slice.ensures.value ∙ c.in_ok-class.ensures.many) in
    let pairs : pairs_of c.put_instances.new.instances.items ≡ contents_of set terms added = c.in_ok-put_instances.ensures ∙ ap (λ (is : List Instance). pairs_of is ++ contents_of set terms added) c.new-instances.ensures.items in
    subst (λ (n : ℕ). AreInstancesBelow n c.as_slice-5.result.now) many (subst (AreInstancesBelow (length terms)) (sym c.as_slice-5.ensures.value) (instances_below set b added c.put_instances.new.instances.items c.requires.added pairs))

pub returns-clause-candidate : goal.returns-clause-candidate
returns-clause-candidate c = λ t tests.
    let set = c.args.clauses.now in
    let b = c.args.bank.now in
    let g = c.args.graph.now in
    let terms = b.terms in
    let added = numbered c.args.added.now in
    let pairs : pairs_of c.as_slice-5.result.now ≡ contents_of set terms added = ap pairs_of c.as_slice-5.ensures.value ∙ c.in_ok-put_instances.ensures ∙ ap (λ (is : List Instance). pairs_of is ++ contents_of set terms added) c.new-instances.ensures.items in
    let start : c.as_slice-4.result.now ≡ start_terms set terms = c.as_slice-4.ensures.value ∙ c.in_ok-start.ensures in
    let class : AreClasses g (length terms) c.as_slice.result.now = subst (AreClasses g (length terms)) (sym c.as_slice.ensures.value) c.in_ok-class.ensures in
    let types : AreTypes b (length terms) c.as_slice-2.result.now = subst (AreTypes b (length terms)) (sym c.as_slice-2.ensures.value) c.in_ok-types.ensures in
    let holds : AreTruths g (length terms) c.as_slice-3.result.now = subst (AreTruths g (length terms)) (sym c.as_slice-3.ensures.value) c.in_ok-holds.ensures in
    c.in_ok-built.ensures (content_by set b added t)
    (is_content set b g added c.requires.clauses c.one_number_per_term.ensures.held c.requires.bank c.requires.graph c.requires.added t tests c.as_slice.result.now c.as_slice-2.result.now c.as_slice-3.result.now c.as_slice-4.result.now (pairs_of c.as_slice-5.result.now) class types holds start pairs)

pub returns-clause-fits : goal.returns-clause-fits
returns-clause-fits c =
    let t = c.has_tests.ensures.0 in
    let tests = c.has_tests.ensures.1 in
    let added = numbered c.args.added.now in
    let grounded = is_grounded c.args.clauses.now c.args.bank.now c.args.graph.now added c.requires.clauses c.one_number_per_term.ensures.held c.requires.bank c.requires.graph c.requires.added t tests in
    let law = candidates_hold (content_by c.args.clauses.now c.args.bank.now added t) grounded c.requires.clauses.named in
    let one = returns-clause-candidate c t tests in
    subst (λ (i : Interp). is_fit c.args.clauses.now.sig i ≡ true) (sym one.interp) law.fits

pub returns-clause-holds : goal.returns-clause-holds
returns-clause-holds c = λ t tests.
    let added = numbered c.args.added.now in
    let grounded = is_grounded c.args.clauses.now c.args.bank.now c.args.graph.now added c.requires.clauses c.one_number_per_term.ensures.held c.requires.bank c.requires.graph c.requires.added t tests in
    candidates_hold (content_by c.args.clauses.now c.args.bank.now added t) grounded c.requires.clauses.named
