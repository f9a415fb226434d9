pub mod Counted
pub mod Nameless
pub mod Walked
