-- Laws of a sheet.
pub mod Shares
pub mod Counts
pub mod Judged
pub mod Rows
pub mod Sheets
pub mod RoundedDown
pub mod Single
pub mod Examples
