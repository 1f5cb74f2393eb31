pub mod Held
pub mod Pending
