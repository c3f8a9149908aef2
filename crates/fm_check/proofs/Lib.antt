pub mod Carried
pub mod Finding
pub mod Holding
pub mod Lists
