-- The evaluation of rows. To be read in this order.
pub mod RowForms
pub mod WrittenRows
pub mod RowBytes
pub mod Worlds
pub mod BelowRows
pub mod Putting
pub mod FillingBelow
pub mod StayingAbove
pub mod AboveRows
pub mod FillingAbove
pub mod Forming
pub mod DifferencesAbove
pub mod DifferencesBelow
