-- Laws of reading a concept.
pub mod Texts
