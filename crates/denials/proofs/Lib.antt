pub mod Narrowing
pub mod Listing
pub mod Rows
pub mod Knowing
