pub mod Environments
pub mod Gathering
pub mod KnownNames
pub mod LocalLists
pub mod Opened
pub mod Scoped
pub mod Slots
