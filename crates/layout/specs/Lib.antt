-- What a comparison of two releases reads. To be read in this order.
pub mod Searches
pub mod Tables
pub mod Layouts
pub mod Findings
pub mod Comparing
