pub mod Fronts
pub mod Cuts
pub mod Readings
mod StandardFacts
