pub mod Crc
pub mod Fault
pub mod Name
pub mod Number
pub mod Spelled
pub mod Subfields
pub mod Whole
