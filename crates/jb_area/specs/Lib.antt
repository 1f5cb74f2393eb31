pub mod Area
pub mod Backups
pub mod Calls
pub mod Commits
pub mod Copying
pub mod Holds
