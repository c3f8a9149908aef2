use Rattle.std.proofs.Common.{◌≡◌, ◌<◌, ◌-◌, List, length, take, drop, refl, slice_get, Some, arith, ap, sym, ◌∙◌}
use Rattle.fm_base.specs.declared.ids.Lit.{Lit}
use Rattle.fm_sat.specs.Store.{cut}
use Rattle.std.proofs.lemmas.Option.{slice_get_read}
use Rattle.std.proofs.lemmas.List.{length-map}
use Rattle.fm_sat.proofs.Clauses.{clause_at, span_at}
use Rattle.fm_sat.proofs.store.Store.clause.Goals as goal

pub part-requires-clause-order : goal.part-requires-clause-order
part-requires-clause-order c =
    let lits = c.self.inside.lits.items in
    let ss = c.self.inside.spans.items in
    let lt : c.args.number < length ss = omega (arith, length-map ss (cut lits), ap (λ v. length v.clauses) c.self.view_is) in
    let at = slice_get_read ss (length ss) c.args.number c.index-span.result.now refl lt c.index-span.ensures in
    (span_at lits ss c.args.number c.index-span.result.now c.self.invariant at).0

pub part-requires-clause-within : goal.part-requires-clause-within
part-requires-clause-within c =
    let lits = c.self.inside.lits.items in
    let ss = c.self.inside.spans.items in
    let lt : c.args.number < length ss = omega (arith, length-map ss (cut lits), ap (λ v. length v.clauses) c.self.view_is) in
    let at = slice_get_read ss (length ss) c.args.number c.index-span.result.now refl lt c.index-span.ensures in
    omega (arith, c.as_slice.ensures.len, ap length c.as_slice.ensures.value, (span_at lits ss c.args.number c.index-span.result.now c.self.invariant at).1)

pub returns : goal.returns
returns c =
    let lits = c.self.inside.lits.items in
    let ss = c.self.inside.spans.items in
    let lt : c.args.number < length ss = omega (arith, length-map ss (cut lits), ap (λ v. length v.clauses) c.self.view_is) in
    let at = slice_get_read ss (length ss) c.args.number c.index-span.result.now refl lt c.index-span.ensures in
    let s = c.index-span.result.now in
    let p : c.part.result.now ≡ cut lits s = c.part.ensures ∙ ap (λ (xs : List Lit). take (s.end - s.start) (drop s.start xs)) c.as_slice.ensures.value in
    ap (λ v. slice_get v.clauses c.args.number) (sym c.self.view_is) ∙ (clause_at lits ss c.args.number s at ∙ ap Some (sym p))
