-- A session as bytes.
pub mod Layout
