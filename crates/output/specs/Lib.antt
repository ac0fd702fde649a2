-- What putting bytes into lent memory leaves behind, numbers as text, and what writing a text answers. To be read in this order.
pub mod Places
pub mod Numbers
pub mod Written
