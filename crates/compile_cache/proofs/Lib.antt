pub mod Options
pub mod Puts
pub mod Files
pub mod Steps
pub mod SmallCode
pub mod SmallLocals
pub mod Nothing
