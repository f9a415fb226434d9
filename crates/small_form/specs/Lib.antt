pub mod SmallForm
