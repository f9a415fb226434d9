pub mod Message
pub mod Reading
pub mod Heads
pub mod Values
pub mod Writing
