use Rattle.std.proofs.Common.{ℕ, ◌+◌, List, sym, ap, ◌∙◌, arith}
use Rattle.std.specs.List.{list_all}
use Rattle.std.proofs.lemmas.Bool.{and_parts}
use Rattle.fm_bank.specs.Interning.{Held}
use Rattle.fm_state.specs.Begins.{between, is_constant_in}
use Rattle.fm_steps.specs.Start.{constants_grown}
use Rattle.fm_state.proofs.Starting.{between_more}
use Rattle.fm_state.proofs.start.put_constants.Goals as goal

pub loop-symbol-preserved : goal.loop-symbol-preserved
loop-symbol-preserved c =
    let p = is_constant_in c.args.bank.now.sig in
    let f = c.loop-symbol.symbol in
    let all = c.args.all in
    let v = c.loop-symbol.invariant in
    let next = between_more f all (omega (arith, c.loop-symbol-test.true)) in
    let after = c.in_ok-intern.ensures.terms in
    record {
      sig = ap (λ (h : Held). h.sig) after ∙ v.sig;
      atoms = ap (λ (h : Held). h.atoms) after ∙ v.atoms;
      constants = (and_parts (p f) (list_all p (between (f + 1) all)) (sym (ap (list_all p) next) ∙ v.constants)).1;
      terms = ap (constants_grown (between (f + 1) all)) (ap (λ (h : Held). h.terms) after) ∙ (sym (ap (λ (fs : List ℕ). constants_grown fs c.loop-symbol.bank.terms) next) ∙ v.terms);
    }
