pub mod Groups
pub mod Offers
pub mod Stands
pub mod Begins
pub mod Searched
