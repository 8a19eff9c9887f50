pub mod OpenRows
pub mod OpeningEnds
pub mod Opening
pub mod OpenCheckingEnds
pub mod OpenCheckingTexts
pub mod OpenChecking
