pub mod Apart
pub mod Ascending
pub mod Forest
pub mod Logs
pub mod Members
pub mod Rings
pub mod Sorts
pub mod Unions
