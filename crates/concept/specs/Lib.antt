-- A question's concept as bytes.
pub mod Bytes
