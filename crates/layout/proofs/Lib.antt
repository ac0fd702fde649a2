-- Laws of searches and layouts.
pub mod Searches
pub mod Layouts
pub mod Findings
pub mod Comparing
