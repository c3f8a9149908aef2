mod Adding
mod Answering
mod Arguments
mod Climbing
mod Exact
pub mod Knowing
mod Showing
mod Supporting
mod Telling
