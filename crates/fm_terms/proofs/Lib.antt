pub mod Nesting
pub mod Naming
pub mod Stepping
pub mod Attaching
pub mod Checking
