pub mod Stored
pub mod Others
pub mod Flows
