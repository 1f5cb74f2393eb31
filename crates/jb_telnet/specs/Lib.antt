pub mod Codes
pub mod Units
pub mod Laws
pub mod Reading
pub mod Front
pub mod Phases
