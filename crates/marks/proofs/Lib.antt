-- Laws of squares of marks. To be read in this order.
pub mod Lists
pub mod Bits
pub mod WordBits
pub mod Squares
pub mod Passes
pub mod Lines
pub mod Orders
pub mod Bytes
pub mod Scans
pub mod Turning
pub mod Handing
