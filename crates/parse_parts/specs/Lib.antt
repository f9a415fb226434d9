pub mod Called
pub mod Parts
pub mod Items
pub mod OneTurn
pub mod Turns
