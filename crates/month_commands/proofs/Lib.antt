pub mod Limits
pub mod CheckLaws
pub mod HandedLaws
pub mod AwardLaws
pub mod ShowLaws
pub mod MadeSizes
pub mod MakeLaws
pub mod TrialLaws
