pub use Rattle.fm_base.specs.Interpretations
pub use Rattle.fm_base.specs.Models
pub use Rattle.fm_base.specs.Truth
pub mod Evaluating
pub mod Failing
pub mod Lookup
pub mod Room
pub mod Tuples
