pub mod Standing
pub mod Gives
pub mod Forms
