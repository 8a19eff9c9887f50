pub mod PageEnds
pub mod Pages
