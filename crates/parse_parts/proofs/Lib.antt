pub mod PassingSteps
pub mod Loops
pub mod Pieces
pub mod Turning
pub mod Gathering
pub mod Parts
