pub mod Childless
pub mod Seams
