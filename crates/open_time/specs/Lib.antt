pub mod Vacant
pub mod Eligible
pub mod Moves
pub mod Refuted
pub mod Tries
pub mod Opened
pub mod Judged
