pub mod Sizes
pub mod Placing
pub mod Order
pub mod Once
pub mod Frames
pub mod Slots
