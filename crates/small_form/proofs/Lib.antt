pub mod Only
pub mod Groups
pub mod Nodes
pub mod Behind
