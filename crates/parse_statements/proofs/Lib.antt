pub mod Settings
pub mod Growing
pub mod StatementLoops
pub mod Starts
