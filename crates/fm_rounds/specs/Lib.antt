pub mod Failing
pub mod Fresh
pub mod Grounds
pub mod InstanceTerms
pub mod Rounds
pub mod Soundness
pub mod Tuples
