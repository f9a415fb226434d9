pub mod Children
pub mod Alike
pub mod Finishing
