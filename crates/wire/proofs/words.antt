pub mod Laws
pub mod Pairs
pub mod RoundTrip
