pub mod Laws
pub mod Shares
pub mod Table
