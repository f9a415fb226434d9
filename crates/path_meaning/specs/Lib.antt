pub mod Scan
pub mod StoreFile
pub mod PathFits
