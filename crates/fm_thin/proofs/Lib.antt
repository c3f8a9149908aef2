pub mod Counting
pub mod Goodness
pub mod Lining
pub mod Loops
pub mod Modelling
pub mod Shapes
pub mod Tabling
