pub mod Tallies
pub mod Sessions
pub mod Packers
pub mod Backups
pub mod Rounds
pub mod Workers
pub mod Laws
