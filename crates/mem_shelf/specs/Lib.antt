pub mod Schedule
pub mod Keeping
