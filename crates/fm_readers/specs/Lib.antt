pub mod Agreeing
pub mod Graphs
pub mod Shown
pub mod Values
pub mod Tested
