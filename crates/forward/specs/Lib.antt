-- Forward marks. To be read in this order.
pub mod Asking
pub mod Rules
pub mod Forward
