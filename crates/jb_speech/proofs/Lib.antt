mod Running
pub mod Growing
pub mod Talked
pub mod Speaking
pub mod Asking
