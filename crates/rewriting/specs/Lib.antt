-- A release written as a file of either version. To be read in this order.
pub mod Bytes
pub mod Refusals
pub mod Rewriting
pub mod Stands
