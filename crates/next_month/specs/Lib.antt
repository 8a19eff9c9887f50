pub mod Lags
pub mod Carrying
pub mod Heirs
pub mod Causes
