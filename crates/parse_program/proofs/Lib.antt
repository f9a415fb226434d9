pub mod Ties
pub mod Walks
pub mod Moving
