pub mod Steps
pub mod Seen
pub mod Newlines
pub mod Tools
