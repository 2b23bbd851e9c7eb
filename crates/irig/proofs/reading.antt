pub mod Hundred
pub mod Laws
