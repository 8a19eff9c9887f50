pub mod Limits
pub mod Drafts
pub mod Columns
pub mod Faults
pub mod Files
pub mod Steps
pub mod Texts
