-- Laws of releases one after another.
pub mod Chains
pub mod Witnesses
pub mod Told
pub mod Reports
pub mod Calls
pub mod Sums
pub mod Rows
pub mod Sheets
pub mod SheetCalls
pub mod Examples
