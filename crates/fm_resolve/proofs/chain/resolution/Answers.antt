use Rattle.std.proofs.Common.{sym, subst, List}
use Rattle.fm_base.specs.declared.ids.Lit.{Lit}
use Rattle.fm_cert.specs.Lines.{SameSet as SameNames}
use Rattle.fm_resolve.specs.Chains.{Has}
use Rattle.fm_resolve.specs.Marks.{members}
use Rattle.fm_resolve.specs.Names.{IsNumbered, all_names, names}
use Rattle.fm_resolve.proofs.ChainLaws.{started}
use Rattle.fm_resolve.proofs.NamedLaws.{all_at, all_from}
use Rattle.fm_resolve.proofs.StepLaws.{chain_same, set_refl, set_sym}
use Rattle.fm_resolve.proofs.StepNames.{same_names}
use Rattle.fm_resolve.proofs.chain.resolution.Goals as goal

pub resolve_all-requires-clause-now : goal.resolve_all-requires-clause-now
resolve_all-requires-clause-now c =
    let here = members c.mark_all.new.self in
    let begin = started c.args.marks.now c.mark_all.new.self c.args.start.now c.requires.clean c.in_ok-mark_all.ensures.covers c.in_ok-mark_all.ensures.now in
    all_from (IsNumbered c.args.atoms.now.keys) here (λ (k : Lit) (h : Has here k). all_at (IsNumbered c.args.atoms.now.keys) c.args.start.now k c.requires.start ((begin k).0 h))

pub returns-in_ok-lits-clause-some : goal.returns-in_ok-lits-clause-some
returns-in_ok-lits-clause-some c =
    let atoms = c.args.atoms.now.keys in
    let here = members c.mark_all.new.self in
    let end' = members c.resolve_all.new.marks in
    let begin = same_names atoms here c.args.start.now (started c.args.marks.now c.mark_all.new.self c.args.start.now c.requires.clean c.in_ok-mark_all.ensures.covers c.in_ok-mark_all.ensures.now) in
    let same : SameNames (names atoms end') (names atoms c.in_ok-lits.lits.items) = subst (λ (l : List Lit). SameNames (names atoms end') (names atoms l)) (sym c.in_ok-lits.ensures) (set_refl (names atoms end')) in
    chain_same (all_names atoms c.args.clauses.now) (names atoms here) (names atoms c.args.start.now) c.args.steps.now (names atoms c.in_ok-lits.lits.items) begin ((c.in_ok-resolve_all.ensures.yes c.if-branch.true (names atoms c.in_ok-lits.lits.items)).1 same)

pub returns-else-branch-clause-none : goal.returns-else-branch-clause-none
returns-else-branch-clause-none c = λ r h.
    let atoms = c.args.atoms.now.keys in
    let here = members c.mark_all.new.self in
    let begin = same_names atoms here c.args.start.now (started c.args.marks.now c.mark_all.new.self c.args.start.now c.requires.clean c.in_ok-mark_all.ensures.covers c.in_ok-mark_all.ensures.now) in
    c.in_ok-resolve_all.ensures.no c.if-branch.false r (chain_same (all_names atoms c.args.clauses.now) (names atoms c.args.start.now) (names atoms here) c.args.steps.now r (set_sym (names atoms here) (names atoms c.args.start.now) begin) h)
