pub mod Backups
pub mod Laws
pub mod Opening
