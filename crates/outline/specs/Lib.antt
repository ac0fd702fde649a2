-- The outline of a concept.
pub mod Constructors
pub mod Atoms
