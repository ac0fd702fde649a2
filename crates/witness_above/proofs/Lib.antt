-- Rows written for a left report. To be read in this order.
pub mod Steps
pub mod LeftSteps
pub mod JoinedRows
pub mod Rooms
pub mod NameTurns
pub mod EdgeRoles
pub mod EdgeTurns
pub mod Reaching
pub mod Going
pub mod LeftEnd
pub mod Whole
pub mod Parts
