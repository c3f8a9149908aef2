pub mod Expecting
pub mod Terms
