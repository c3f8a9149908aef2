pub mod Chains
pub mod Marks
pub mod Names
pub mod Stores
