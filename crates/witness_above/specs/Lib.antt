-- Rows written for a left report. To be read in this order.
pub mod Joining
pub mod Left
pub mod Reach
pub mod Passes
pub mod Whole
