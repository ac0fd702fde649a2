-- Releases one after another. To be read in this order.
pub mod Chains
pub mod Witnesses
pub mod Reports
pub mod Calls
pub mod Sheets
pub mod SheetCalls
pub mod Examples
