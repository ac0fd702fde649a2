-- What is demanded of files. To be read in this order.
pub mod Inputs
pub mod Lying
pub mod Examples
