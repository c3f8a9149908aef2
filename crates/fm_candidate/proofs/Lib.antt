pub mod Lasting
pub mod Worked
