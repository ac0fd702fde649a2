-- Theorems about the calls' own promises.
pub mod Judging
pub mod Promise
pub mod Demand3
