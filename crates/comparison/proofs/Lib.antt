-- Laws of the comparison.
pub mod Rows
pub mod Bytes
pub mod Pipeline
