pub mod Placing
mod Completing
mod WordLemmas
