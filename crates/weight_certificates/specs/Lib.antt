pub mod Leaves
pub mod Rows
pub mod Pricing
pub mod Evidence
pub mod Setup
pub mod Columns
