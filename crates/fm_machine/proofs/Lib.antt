pub mod Beginning
pub mod Bounds
pub mod Chosen
pub mod Fronts
pub mod Gone
pub mod Knowns
pub mod Staying
pub mod Tying
