pub mod Turned
pub mod Obeyed
pub mod Passing
