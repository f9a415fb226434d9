-- Lemmas.
pub mod CaseSteps
pub mod Jumps
pub mod Places
pub mod Tests
pub mod Turns
