-- Laws of sessions. To be read in this order.
pub mod HeldFiles
pub mod Sessions
pub mod Finishing
pub mod After
pub mod Stepping
pub mod Beginning
pub mod Readers
pub mod Canonical
pub mod Returning
pub mod Restoring
pub mod Undoing
pub mod AnyOrder
