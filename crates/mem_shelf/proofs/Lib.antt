pub mod Counting
pub mod LastOf
pub mod Joining
pub mod Partly
pub mod Latest
pub mod Tells
