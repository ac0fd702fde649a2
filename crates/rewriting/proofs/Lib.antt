-- Laws of files written. To be read in this order.
pub mod Pieces
pub mod Lengths
pub mod Stands
pub mod Answers
pub mod Parts
pub mod ReadBack
pub mod Accepted
pub mod Canonical
pub mod RoundTrip
