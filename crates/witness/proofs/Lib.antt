-- Theorems about the calls' own promises, and the laws that their proofs cite.
pub mod Judgements
pub mod Deciding
pub mod CheckedRows
pub mod Writing
pub mod Passing
pub mod Agreement
