pub mod Fnv
pub mod Key
pub mod Event
