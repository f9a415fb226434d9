pub mod Turning
pub mod Counts
pub mod Signs
pub mod Listed
pub mod Fronts
