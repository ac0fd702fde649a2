-- Concepts written as rows. To be read in this order.
pub mod Rows
pub mod Written
pub mod Lent
