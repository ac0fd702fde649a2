-- What lies below and above the roots of a concept, by marks. To be read in this order.
pub mod Grids
pub mod Above
pub mod Nodes
pub mod Roots
