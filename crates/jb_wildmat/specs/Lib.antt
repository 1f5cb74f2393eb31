pub mod Along
pub mod Wildmats
