pub mod PrefixFree
pub mod ReadAgain
pub mod Spelled
mod StandardFacts
