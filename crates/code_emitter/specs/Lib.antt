pub mod Children
pub mod Emitting
