pub mod FileNames
pub mod Reading
pub mod Handing
pub mod Months
pub mod Sights
pub mod Writes
pub mod Drafts
