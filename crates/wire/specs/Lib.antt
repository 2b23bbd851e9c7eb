pub mod Digits
pub mod Numbers
pub mod Time
pub mod Packets
pub mod Words
