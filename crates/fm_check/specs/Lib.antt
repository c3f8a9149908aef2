pub mod Carrying
pub mod Printed
pub mod Scripts
pub mod Verdicts
