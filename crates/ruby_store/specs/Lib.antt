pub mod Cells
pub mod Changes
pub mod Kinds
pub mod Model
