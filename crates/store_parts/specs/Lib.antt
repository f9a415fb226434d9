pub mod Extents
pub mod Lists
pub mod Scopes
pub mod Views
