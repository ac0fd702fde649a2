-- The file that the code puts is the file defined, and every file made is accepted. To be read in this order.
pub mod Choices
pub mod NameKinds
pub mod Orders
pub mod Pools
pub mod Pieces
pub mod NameAxioms
pub mod Answers
pub mod Formed
pub mod WellFormed
pub mod NormalForm
pub mod Short
pub mod Accepted
