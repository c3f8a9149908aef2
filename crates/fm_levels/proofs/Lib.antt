pub mod Tabling
pub mod Naming
pub mod Cutting
pub mod Leveling
