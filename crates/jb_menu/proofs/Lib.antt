pub mod Keeping
mod Moments
mod Rows
mod StandardFacts
pub mod Spaces
