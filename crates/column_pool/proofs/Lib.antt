pub mod Weighing
pub mod Heavier
