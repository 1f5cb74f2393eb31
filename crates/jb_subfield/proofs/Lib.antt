pub mod Spelling
mod StandardFacts
mod Walked
