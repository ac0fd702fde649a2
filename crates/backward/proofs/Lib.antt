-- Laws of backward marks.
pub mod Tested
pub mod Columns
pub mod Defined
pub mod Bridge
pub mod Meaning
