pub mod Kept
pub mod Heaviest
