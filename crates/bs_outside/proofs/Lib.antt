pub mod Owing
pub mod Cuts
pub mod Segments
pub mod Since
pub mod TextMaps
