pub mod Elaborate
pub mod Scoped
