pub mod Answers
pub mod Depths
pub mod Levels
pub mod Lookup
pub mod Prefixes
pub mod Values
