use Rattle.std.proofs.Common.{ℕ, List, take, ap, get_or, false, sym, ◌∙◌, subst}
use Rattle.std.proofs.lemmas.List.{take_more}
use Rattle.std.specs.Prelude.{max}
use Rattle.fm_trail.specs.Trail.{level_on}
use Rattle.fm_base.specs.declared.ids.Lit.{Lit}
use Rattle.fm_sat.specs.Learning.{IsHighest}
use Rattle.fm_sat.proofs.Endings.{highest_more, max_is}
use Rattle.fm_sat.proofs.learning.highest_level.Goals as goal

pub loop-lit-preserved : goal.loop-lit-preserved
loop-lit-preserved c =
    let d : Lit = record { atom = record { 0 = 0 }; positive = false } in
    let es = c.args.trail.now.entries in
    let i = c.loop-lit.lit-index in
    subst (λ (xs : List Lit). IsHighest es xs c.max-highest.result) (sym (take_more c.args.lits.now i d c.loop-lit-test.true)) (highest_more es (take i c.args.lits.now) (get_or c.args.lits.now i d) c.loop-lit.highest c.max-highest.result c.loop-lit.invariant (max_is (level_on es (get_or c.args.lits.now i d)) c.loop-lit.highest c.max-highest.result (c.max-highest.ensures ∙ ap (λ (n : ℕ). max n c.loop-lit.highest) c.level_of.ensures)))
