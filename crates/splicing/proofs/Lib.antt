-- Laws of editing files. To be read in this order.
pub mod Rising
pub mod Filed
pub mod Places
pub mod Splices
pub mod Texts
