-- Resolution on literals by number.
use Rattle.std.specs.Prelude.{List}
use Rattle.fm_base.specs.declared.ids.Lit.{Lit}
pub use Rattle.fm_base.specs.Resolution.{Has, SameSet, opposite}
use Rattle.fm_base.specs.Resolution.{Resolves as ResolvesBy}

abbrev pub Resolves : List Lit → Lit → List Lit → List Lit → Type 0
Resolves a l b result = ResolvesBy opposite a l b result
