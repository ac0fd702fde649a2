-- Laws of what the programs print.
pub mod Printed
