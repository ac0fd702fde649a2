-- The release file: what it says, and what is refused. To be read in this order.
pub mod Files
pub mod Roles
pub mod Refusals
pub mod Readings
pub mod Shown
pub mod Kinds
pub mod Versions
pub mod Entries
pub mod Tables
pub mod Parts
