-- Steps of resolution over the first atoms.
use Rattle.std.specs.Prelude.{ℕ, ◌<◌}
use Rattle.fm_base.specs.Resolution.{Has}
use Rattle.fm_base.specs.declared.ids.Lit.{Lit}
use Rattle.fm_sat.specs.Learning.{Steps}

-- each literal that is resolved has one of the first n atoms
abbrev pub AreStepsOver : ℕ → Steps → Type 0
AreStepsOver n steps = (step : Lit × ℕ) → Has steps step → step.0.atom.0 < n
