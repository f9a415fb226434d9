pub mod Lookaheads
pub mod LocalNames
