pub mod Draws
pub mod Months
