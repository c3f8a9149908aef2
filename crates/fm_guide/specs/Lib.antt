pub mod Events
pub mod Guides
pub mod Watches
