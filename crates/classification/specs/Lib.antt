-- The classification of a release. To be read in this order.
pub mod Inclusions
pub mod Steps
