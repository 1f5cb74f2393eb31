pub mod Remainders
pub mod Rows
