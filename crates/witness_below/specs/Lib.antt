-- Rows written for a right report. To be read in this order.
pub mod Cells
pub mod Finding
pub mod Looking
pub mod Tasks
pub mod Whole
pub mod Arranging
