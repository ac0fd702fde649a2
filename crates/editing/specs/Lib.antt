-- Editing while the difference is shown. To be read in this order.
pub mod Sessions
pub mod Refusals
pub mod Steps
pub mod Starting
pub mod Readers
pub mod Sequences
pub mod Judging
