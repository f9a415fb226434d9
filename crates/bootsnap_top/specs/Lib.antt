pub mod Plan
pub mod SmallRun
pub mod Machine
pub mod Answer
pub mod Endings
pub mod CachedRun
