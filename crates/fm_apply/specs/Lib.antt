pub mod Applied
pub mod Scoped
