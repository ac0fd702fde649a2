-- Squares of marks, passes over them, and lines. To be read in this order.
pub mod Memory
pub mod Squares
pub mod Passes
pub mod Words
pub mod Lines
pub mod Inclusions
pub mod Orders
pub mod Waits
pub mod Columns
