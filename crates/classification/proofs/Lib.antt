-- Laws of the classification. To be read in this order.
pub mod Marking
pub mod Nodes
pub mod AxiomRows
pub mod Bridge
pub mod Settled
pub mod Meaning
