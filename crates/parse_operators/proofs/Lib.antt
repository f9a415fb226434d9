pub mod Parts
pub mod Climbs
pub mod Joining
