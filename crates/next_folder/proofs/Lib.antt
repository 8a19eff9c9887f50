pub mod Bare
pub mod Found
pub mod Taken
pub mod Bars
pub mod Long
pub mod Rolls
pub mod Counted
pub mod Spares
