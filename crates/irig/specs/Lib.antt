pub mod Table
pub mod Writing
pub mod Reading
pub mod Streams
pub mod Finding
