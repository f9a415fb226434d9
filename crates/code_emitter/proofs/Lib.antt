pub mod Opened
pub mod Seams
