pub mod Sets
pub mod Tables
pub mod Places
pub mod Stores
pub mod Looks
