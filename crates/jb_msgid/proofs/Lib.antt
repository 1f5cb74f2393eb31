pub mod Addresses
pub mod Beginnings
pub mod Doubling
pub mod OneAnswer
pub mod Serials
mod StandardFacts
pub mod Written
