pub mod Knot
pub mod Turn
