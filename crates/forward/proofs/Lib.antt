-- Laws of forward marks.
pub mod Tested
pub mod Bridge
pub mod Meaning
