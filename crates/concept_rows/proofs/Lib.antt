-- The theory of rows. To be read in this order.
pub mod Rows
pub mod LeftRows
pub mod Columns
pub mod RightRows
pub mod Bounds
pub mod Counting
