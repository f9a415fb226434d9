pub mod Tests
pub mod ClassFirst
