pub mod Conflicts
pub mod Endings
pub mod Faults
pub mod ModelLines
pub mod Progress
pub mod States
