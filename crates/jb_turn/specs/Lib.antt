pub mod Rows
pub mod Rule
pub mod Steps
pub mod Seats
pub mod Whole
