pub mod Fields
pub mod Fixed
pub mod Index
pub mod Lastread
pub mod Laws
pub mod Message
