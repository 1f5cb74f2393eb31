pub mod Passing
mod Standing
mod Telling
