pub mod Events
pub mod Interrupts
pub mod Pending
pub mod Queues
pub mod Saved
pub mod Settings
