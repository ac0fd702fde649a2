-- The text that the code puts is the text defined, and what writing it answers is what is promised.
pub mod ThreeDigits
pub mod Entries
pub mod Sheets
pub mod Answers
pub mod PageLengths
pub mod PageReadings
pub mod PageLines
pub mod PageWriting
pub mod PageAnswers
mod Examples
