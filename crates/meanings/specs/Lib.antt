-- What a comparison promises. To be read in this order.
pub mod Refusals
pub mod Comparing
pub mod Reading
pub mod Demand3
