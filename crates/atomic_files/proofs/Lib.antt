pub mod Written
pub mod LookUps
pub mod EachMomentOf
pub mod Prefixes
