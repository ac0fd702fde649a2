-- Laws of the layout.
pub mod Layouts
