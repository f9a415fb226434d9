pub mod SameBytes
pub mod LocalIndex
pub mod LocalKeys
pub mod LocalSteps
pub mod LocalClosing
pub mod Lookaheads
