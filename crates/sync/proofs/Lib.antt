pub mod Numbers
pub mod Refused
pub mod Frame
pub mod Keeps
pub mod Done
pub mod Reached
pub mod Runs
pub mod Takings
