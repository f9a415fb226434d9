pub mod Fetching
pub mod SmallSlots
