pub mod AskingEnds
pub mod Asking
pub mod AskingTexts
