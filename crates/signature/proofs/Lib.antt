-- Laws of a signature's bytes and of building one. To be read in this order.
pub mod Faults
pub mod Built
pub mod Wider
