-- Answers as numbers. To be read in this order.
pub mod Codes
pub mod Concepts
pub mod Sessions
pub mod Pages
pub mod Practice
