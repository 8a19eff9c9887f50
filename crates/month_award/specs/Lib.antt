pub mod Months
pub mod Runs
