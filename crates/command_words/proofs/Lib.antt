pub mod Forms
pub mod Laws
pub mod Standing
pub mod Whole
pub mod Numbers
pub mod Steps
pub mod Shapes
