-- Laws of bytes put one after the other, and of numbers as text. To be read in this order.
pub mod Puts
pub mod Rest
pub mod Written
pub mod Decimals
