pub mod Held
pub mod Limits
pub mod AskingEnds
pub mod AskingRun
pub mod AskingLaws
pub mod SameBids
