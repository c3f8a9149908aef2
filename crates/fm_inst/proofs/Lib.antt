pub mod Beginnings
pub mod Deep
pub mod Fitting
pub mod Levels
pub mod Linking
pub mod Naming
pub mod Passing
pub mod Scoped
