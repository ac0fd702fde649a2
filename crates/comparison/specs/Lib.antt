-- The comparison of two releases. To be read in this order.
pub mod Bytes
pub mod Compared
