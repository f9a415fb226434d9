pub mod ClauseSteps
pub mod CountingDown
pub mod HandlerSteps
pub mod ParamSteps
