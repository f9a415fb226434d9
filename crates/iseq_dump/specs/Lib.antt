pub mod Dump
pub mod Reading
