pub mod Answers
pub mod Held
pub mod Laws
pub mod Levels
pub mod Parts
pub mod Picks
pub mod Rows
pub mod Sources
