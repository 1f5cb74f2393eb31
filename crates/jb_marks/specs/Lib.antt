pub mod Indexed
pub mod Kept
pub mod Order
pub mod Store
