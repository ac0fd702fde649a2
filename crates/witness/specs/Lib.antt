-- What showing a concept, and checking one, promise. To be read in this order.
pub mod Refusals
pub mod Lent
pub mod Showing
pub mod Checking
pub mod Reports
pub mod Asked
pub mod Deciding
pub mod Writing
