pub mod Held
pub mod PageLaws
