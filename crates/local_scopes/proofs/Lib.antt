pub mod EnvironmentSteps
pub mod KnownSteps
pub mod LocalSteps
pub mod Walked
