pub mod Cuts
pub mod EncodedLemmas
mod Growing
pub mod Held
pub mod NameLemmas
mod Rows
pub mod WordLemmas
