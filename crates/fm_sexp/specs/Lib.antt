pub mod Building
pub mod Items
pub mod Names
pub mod Pieces
pub mod Places
