mod Heads
pub mod Numbers
pub mod Spelled
mod StandardFacts
