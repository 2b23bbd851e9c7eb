pub mod Ack
