pub mod Nothing
pub mod Takings
pub mod TreeLists
pub mod TreeTellings
