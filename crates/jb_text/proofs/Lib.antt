pub mod DateLemmas
pub mod DigitLemmas
mod Growing
pub mod LetterLemmas
mod Rows
mod ShownLemmas
