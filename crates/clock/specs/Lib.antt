pub mod Clocks
pub mod Falling
pub mod Setting
pub mod Sources
pub mod Time
pub mod Waiting
