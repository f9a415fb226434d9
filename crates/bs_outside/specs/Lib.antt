pub mod Told
pub mod Parts
pub mod Paths
pub mod SourceTree
pub mod Cache
pub mod History
pub mod Images
