pub mod Explanations
pub mod Laws
pub mod Meant
pub mod Searches
