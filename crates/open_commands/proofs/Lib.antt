pub mod Held
pub mod Limits
pub mod Those
pub mod OpeningLaws
pub mod OpenCheckingLaws
