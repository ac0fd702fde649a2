-- Laws of writing a right report.
pub mod Numbering
pub mod Searching
pub mod Partners
pub mod Looks
pub mod Reports
pub mod Meaning
pub mod Unmarked
pub mod Counted
pub mod Steps
pub mod Outcomes
pub mod Going
pub mod Whole
pub mod FewParts
pub mod Arranged
