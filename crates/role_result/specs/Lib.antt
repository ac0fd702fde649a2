-- The role result: what a comparison tells of two roles.
pub mod Pairs
