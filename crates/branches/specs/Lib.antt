-- One sheet for many branches. To be read in this order.
pub mod Refusals
pub mod Shares
pub mod Rows
pub mod Sheets
pub mod RoundedDown
pub mod Examples
pub mod Single
pub mod Filling
