-- Laws of the calls for C and Rust. To be read in this order.
pub mod Outcomes
pub mod Lengths
pub mod Reports
