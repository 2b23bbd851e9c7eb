pub mod Calls
pub mod Demand
pub mod Each
pub mod Examples
pub mod Readings
pub mod Refusals
pub mod Trips
pub mod Years
