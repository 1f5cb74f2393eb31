pub mod Answers
pub mod Begin
pub mod Copying
pub mod Target
