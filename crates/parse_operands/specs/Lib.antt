pub mod Turns
pub mod Names
pub mod Cases
pub mod Definitions
pub mod Literals
pub mod Indexes
