pub mod Numbering
pub mod Formed
pub mod Nesting
