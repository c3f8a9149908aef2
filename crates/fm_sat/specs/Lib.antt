pub mod Store
pub mod Learning
pub mod Marks
pub mod Laws
