-- Axioms put into a file and taken out of it. To be read in this order.
pub mod Axioms
pub mod Places
