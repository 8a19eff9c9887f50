pub mod Tables
pub mod Values
pub mod Pieces
pub mod Texts
pub mod Again
