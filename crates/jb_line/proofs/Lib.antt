pub mod LineLemmas
mod StandardFacts
