pub mod Asked
pub mod Explained
pub mod Known
pub mod Made
pub mod Settled
