pub mod Growing
pub mod Cutting
pub mod Adding
pub mod Applying
pub mod Chaining
pub mod Heads
pub mod Framing
pub mod Naming
