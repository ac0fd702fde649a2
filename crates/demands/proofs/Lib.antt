-- Theorems about files.
pub mod Lying
pub mod Files
pub mod Examples
