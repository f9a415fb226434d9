pub mod Numbers
pub mod Examples
pub mod Opened
pub mod Begins
pub mod FirstFaults
pub mod Twice
