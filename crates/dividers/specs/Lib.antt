pub mod Pairs
pub mod Nearest
