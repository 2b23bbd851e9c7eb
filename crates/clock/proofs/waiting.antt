pub mod Window
pub mod Heard
pub mod Laws
pub mod Answer
pub mod Resume
pub mod Examples
