pub mod Answers
pub mod Ending
pub mod First
pub mod Laws
pub mod Naming
