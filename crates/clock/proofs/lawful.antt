pub mod Laws
pub mod Stays
