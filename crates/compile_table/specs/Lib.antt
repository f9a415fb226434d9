pub mod Shapes
pub mod Sequences
pub mod Order
pub mod Worked
