mod Reordered
mod DirectChildren
mod ByPlaces
mod ByNumbers
pub mod Opened
pub mod Alike
pub mod Lifted
pub mod Finishing
pub mod FileDone
pub mod Programs
mod Dumpable
mod UnitSet
