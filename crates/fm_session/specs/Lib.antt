pub mod Effects
pub mod Kept
pub mod Making
pub mod Problems
pub mod Replies
pub mod Steps
