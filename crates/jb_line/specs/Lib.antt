pub mod Keys
pub mod Typing
pub mod Lines
