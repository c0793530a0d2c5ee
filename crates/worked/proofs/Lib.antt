pub mod Splitting
pub mod Examples
pub mod SmallCases
