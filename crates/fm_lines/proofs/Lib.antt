pub mod GoingOn
pub mod Placed
pub mod Resolved
pub mod Shown
pub mod Tested
