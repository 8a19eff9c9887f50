pub mod CountChains
pub mod Counted
pub mod CountLines
pub mod CountLoops
pub mod FewCounted
