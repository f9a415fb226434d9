pub mod SmallUnit
pub mod Payload
pub mod Entry
pub mod Fits
pub mod LeftOut
pub mod Visits
