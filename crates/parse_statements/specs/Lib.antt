pub mod Settings
pub mod Statements
pub mod Commands
pub mod Arguments
