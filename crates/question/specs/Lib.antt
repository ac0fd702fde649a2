-- Questions. To be read in this order.
pub mod Refusals
pub mod Positions
pub mod Asking
pub mod Answering
pub mod Evaluation
