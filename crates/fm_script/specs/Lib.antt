pub mod Commands
pub mod Numerals
pub mod Shown
pub mod Within
