pub mod Certified
pub mod Thin
