pub mod AlongLemmas
pub mod EndLemmas
pub mod LastWord
mod Rows
