pub mod Gains
pub mod Leaves
pub mod Looked
pub mod Names
pub mod Pieces
pub mod Steps
