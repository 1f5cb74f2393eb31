pub mod Fronts
pub mod Growing
pub mod Places
pub mod Copies
pub mod Showing
