-- Practice releases. To be read in this order.
pub mod Draws
pub mod Practice
pub mod Refusals
pub mod Making
pub mod Accepted
