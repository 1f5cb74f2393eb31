pub mod Tiered
pub mod Pieces
pub mod Inside
