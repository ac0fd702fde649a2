-- The report, the text of a sheet and the page, and what writing them answers. To be read in this order.
pub mod Numbers
pub mod Texts
pub mod Sides
pub mod Refusals
pub mod Written
pub mod Answered
pub mod Sheets
pub mod Pages
pub mod PagesRead
pub mod PagesWritten
pub mod PageCells
