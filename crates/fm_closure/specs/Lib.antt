pub mod Asked
pub mod Classes
pub mod Facts
pub mod Members
pub mod Signatures
