use Rattle.std.proofs.Common.{◌≡◌, List, ◌++◌, ◌∷◌, [], length, arith, ap, subst, sym, ◌∙◌}
use Rattle.fm_base.specs.declared.ids.Lit.{Lit}
use Rattle.fm_sat.specs.Store.{AreSpans, clauses_of}
use Rattle.fm_sat.proofs.Clauses.{clauses_push, new_span, spans_push}
use Rattle.fm_sat.proofs.store.Store.add.Goals as goal

pub invariant_of-self-2 : goal.invariant_of-self-2
invariant_of-self-2 c =
    let lits = c.self.inside.lits.items in
    let ss = c.self.inside.spans.items in
    let more = c.args.lits.now in
    let a : c.extend_from_slice.new.self.items ≡ lits ++ more = c.in_ok-extend_from_slice.ensures.items in
    let s : c.len-start.result ≡ length lits = omega arith in
    let e : c.len.result ≡ length (lits ++ more) = omega (arith, ap length a) in
    let q : c.push_reserved.new.self.items ≡ ss ++ new_span lits more ∷ [] = c.push_reserved.ensures.items ∙ λ i. c.reserve.ensures.items i ++ record { start = s i; end = e i } ∷ [] in
    subst (λ (xs : List Lit). AreSpans xs c.push_reserved.new.self.items) (sym a) (subst (AreSpans (lits ++ more)) (sym q) (spans_push lits more ss c.self.invariant))

pub returns-clause-added : goal.returns-clause-added
returns-clause-added c =
    let lits = c.self.inside.lits.items in
    let ss = c.self.inside.spans.items in
    let more = c.args.lits.now in
    let a : c.extend_from_slice.new.self.items ≡ lits ++ more = c.in_ok-extend_from_slice.ensures.items in
    let s : c.len-start.result ≡ length lits = omega arith in
    let e : c.len.result ≡ length (lits ++ more) = omega (arith, ap length a) in
    let q : c.push_reserved.new.self.items ≡ ss ++ new_span lits more ∷ [] = c.push_reserved.ensures.items ∙ λ i. c.reserve.ensures.items i ++ record { start = s i; end = e i } ∷ [] in
    λ i. record { clauses = ((λ j. clauses_of (a j) (q j)) ∙ (clauses_push lits more ss c.self.invariant ∙ ap (λ v. v.clauses ++ more ∷ []) c.self.view_is)) i }
