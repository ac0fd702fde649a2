-- Laws of outlines. To be read in this order.
pub mod Names
pub mod Constructors
pub mod Readable
pub mod Roots
pub mod Atoms
pub mod Turns
