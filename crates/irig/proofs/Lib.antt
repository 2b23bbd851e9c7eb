pub mod Finding
pub mod Numbers
pub mod Parts
pub mod Reached
pub mod RoundTrip
