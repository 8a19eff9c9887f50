pub mod Keys
pub mod Rules
pub mod Spelling
pub mod Codes
