pub mod Questions
pub mod Overs
pub mod Counting
pub mod Slacks
