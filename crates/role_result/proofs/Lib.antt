-- Laws of the role result.
pub mod Places
pub mod Pairs
