use Rattle.std.proofs.Common.{◌≡◌, Some, sym, subst}
use Rattle.std.specs.Prelude.{slice_get}
use Rattle.fm_cert.specs.Lines.{Clause, Has as HasName, opposite as opposite_name}
use Rattle.fm_resolve.specs.Marks.{members}
use Rattle.fm_resolve.specs.Names.{names}
use Rattle.fm_resolve.proofs.NameLaws.{clause_named, clause_numbered, have_marks}
use Rattle.fm_resolve.proofs.StepNames.{no_clause, one_clause, step_no, step_numbered, step_yes, stop_name}
use Rattle.fm_resolve.proofs.chain.resolve_with.Goals as goal

pub returns-in_default-clause-no : goal.returns-in_default-clause-no
returns-in_default-clause-no c = λ _ other _ h _. stop_name c.args.atoms.now.keys (members c.args.marks.now) c.args.lit c.requires.now (rw c.in_default.is at c.find_lit.ensures.none) h

pub resolve-requires-clause-marks : goal.resolve-requires-clause-marks
resolve-requires-clause-marks c =
    let found : slice_get c.args.clauses.now c.args.clause ≡ Some c.as_slice.result.now = cc (c.in-Some-at.ensures, c.as_slice.ensures) in
    have_marks c.args.marks.now c.args.atoms.now.keys c.as_slice.result.now c.requires.marks (clause_numbered c.args.atoms.now.keys c.args.clauses.now c.args.clause c.as_slice.result.now c.requires.clauses found)

pub returns-in-None-clause-no : goal.returns-in-None-clause-no
returns-in-None-clause-no c = λ _ other e _ _. no_clause c.args.atoms.now.keys c.args.clauses.now c.args.clause other (cc c.in-None.ensures) e

pub returns-in_ok-found-in-Some-at-clause-yes : goal.returns-in_ok-found-in-Some-at-clause-yes
returns-in_ok-found-in-Some-at-clause-yes c = λ e.
    let b = c.as_slice.result.now in
    let atoms = c.args.atoms.now.keys in
    let found : slice_get c.args.clauses.now c.args.clause ≡ Some b = cc (c.in-Some-at.ensures, c.as_slice.ensures) in
    let nb = clause_numbered atoms c.args.clauses.now c.args.clause b c.requires.clauses found in
    (names atoms b, clause_named atoms c.args.clauses.now c.args.clause b found, step_yes atoms (members c.args.marks.now) c.in-Some.number c.args.lit b (members c.resolve.new.self) c.requires.now c.in-Some.ensures.numbered nb c.in-Some.ensures.named (c.in_ok-found-in-Some-at.ensures.yes e))

pub returns-in_ok-found-in-Some-at-clause-numbered : goal.returns-in_ok-found-in-Some-at-clause-numbered
returns-in_ok-found-in-Some-at-clause-numbered c = λ e.
    let b = c.as_slice.result.now in
    let atoms = c.args.atoms.now.keys in
    let found : slice_get c.args.clauses.now c.args.clause ≡ Some b = cc (c.in-Some-at.ensures, c.as_slice.ensures) in
    let nb = clause_numbered atoms c.args.clauses.now c.args.clause b c.requires.clauses found in
    step_numbered atoms (members c.args.marks.now) c.in-Some.number b (members c.resolve.new.self) c.requires.now nb (c.in_ok-found-in-Some-at.ensures.yes e)

pub returns-in_ok-found-in-Some-at-clause-no : goal.returns-in_ok-found-in-Some-at-clause-no
returns-in_ok-found-in-Some-at-clause-no c = λ e other f h g.
    let b = c.as_slice.result.now in
    let atoms = c.args.atoms.now.keys in
    let found : slice_get c.args.clauses.now c.args.clause ≡ Some b = cc (c.in-Some-at.ensures, c.as_slice.ensures) in
    let nb = clause_numbered atoms c.args.clauses.now c.args.clause b c.requires.clauses found in
    let same = one_clause atoms c.args.clauses.now c.args.clause b other found f in
    step_no atoms (members c.args.marks.now) c.in-Some.number c.args.lit b c.requires.now c.in-Some.ensures.numbered nb c.in-Some.ensures.named (c.in_ok-found-in-Some-at.ensures.no e) h (subst (λ (d : Clause). HasName d (opposite_name c.args.lit)) (sym same) g)
