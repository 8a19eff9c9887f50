pub mod Counts
pub mod CountLabels
pub mod CountGraphs
