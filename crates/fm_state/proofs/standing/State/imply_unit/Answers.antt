use Rattle.std.proofs.Common.{◌≡◌, Some, None, sym, ap, subst, ◌∙◌}
use Rattle.std.specs.Prelude.{slice_get}
use Rattle.std.specs.List.{find}
use Rattle.fm_base.specs.declared.ids.Lit.{Lit}
use Rattle.fm_sat.specs.Store.{IsUnit}
use Rattle.fm_steps.specs.State.{State}
use Rattle.fm_trail.specs.Trail.{is_open, value_of}
use Rattle.fm_state.proofs.Open.{on_ok_more, unit_first}
use Rattle.fm_state.proofs.standing.State.imply_unit.Goals as goal

pub put-requires : goal.put-requires
put-requires c =
    let s = c.args.self.now in
    let n = c.args.clause in
    let lits = c.clause.result.now in
    let l = c.requires.unit.0 in
    let at = subst (λ (x : State). slice_get x.clauses n ≡ Some lits) c.self.view_is c.clause.ensures in
    let found = subst (λ (x : State). c.first_open.result ≡ find (is_open x.trail.entries) lits) c.self.view_is c.first_open.ensures in
    let first = unit_first s n l lits c.requires.unit.1 at in
    let some : Some c.in-Some.lit ≡ Some l = sym c.in-Some.is ∙ found ∙ first.0 in
    let lit : c.in-Some.lit ≡ l = cc some in
    ap (λ (k : Lit). value_of s.trail.entries k.atom) lit ∙ first.1

pub unreachable-requires : goal.unreachable-requires
unreachable-requires c =
    let s = c.args.self.now in
    let n = c.args.clause in
    let lits = c.clause.result.now in
    let l = c.requires.unit.0 in
    let at = subst (λ (x : State). slice_get x.clauses n ≡ Some lits) c.self.view_is c.clause.ensures in
    let found = subst (λ (x : State). c.first_open.result ≡ find (is_open x.trail.entries) lits) c.self.view_is c.first_open.ensures in
    let first = unit_first s n l lits c.requires.unit.1 at in
    let none : None ≡ Some l = sym c.in-None.is ∙ found ∙ first.0 in
    absurd (cc none)

pub returns : goal.returns
returns c =
    let s = c.args.self.now in
    let n = c.args.clause in
    let lits = c.clause.result.now in
    let l = c.requires.unit.0 in
    let at = subst (λ (x : State). slice_get x.clauses n ≡ Some lits) c.self.view_is c.clause.ensures in
    let found = subst (λ (x : State). c.first_open.result ≡ find (is_open x.trail.entries) lits) c.self.view_is c.first_open.ensures in
    let first = unit_first s n l lits c.requires.unit.1 at in
    let some : Some c.in-Some.lit ≡ Some l = sym c.in-Some.is ∙ found ∙ first.0 in
    let lit : c.in-Some.lit ≡ l = cc some in
    let unit = subst (λ (k : Lit). IsUnit s.clauses s.trail.entries n k) (sym lit) c.requires.unit.1 in
    on_ok_more c.put.result (λ after. record { quiet = c.requires.quiet; lit = c.in-Some.lit; unit = unit; after = after }) c.put.ensures
