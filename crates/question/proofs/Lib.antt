-- Laws of questions. To be read in this order.
pub mod Worlds
pub mod AboveRoots
pub mod OwnAtoms
pub mod Sifting
pub mod BelowAtoms
pub mod BelowRoots
pub mod Turns
pub mod Verdicts
pub mod Asks
pub mod Exchanging
