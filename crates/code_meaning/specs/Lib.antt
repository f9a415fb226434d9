pub mod Code
pub mod Slots
pub mod Machine
pub mod Frames
