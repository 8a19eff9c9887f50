pub mod Nodes
pub mod Offers
