pub mod Expansions
pub mod Interpretations
pub mod Models
pub mod Normal
pub mod Refusals
pub mod Resolution
pub mod Truth
