pub mod Parts
pub mod Climbs
