pub mod Existence
pub mod Machine
pub mod Reading
pub mod Runs
pub mod Sizes
pub mod Spans
pub mod Trees
pub mod Uniqueness
