pub mod Histories
pub mod TurnKeeps
pub mod Places
pub mod Out
pub mod Callers
