pub mod Moves
pub mod Settling
pub mod Ties
