pub mod Texts
pub mod Rolled
pub mod Barred
pub mod Ends
pub mod Counts
pub mod Spared
