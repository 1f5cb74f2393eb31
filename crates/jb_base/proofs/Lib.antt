pub mod Access
mod StandardFacts
