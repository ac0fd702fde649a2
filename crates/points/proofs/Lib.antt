-- Laws of points. To be read in this order.
pub mod Grids
pub mod RowBytes
pub mod Raising
pub mod LosingNodes
pub mod LosingRoots
