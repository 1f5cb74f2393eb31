pub mod EventLemmas
pub mod Exchanges
mod StandardFacts
