pub mod Laws
pub mod RoundTrip
pub mod Signs
pub mod Read
