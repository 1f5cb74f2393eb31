pub mod Callers
pub mod Ringing
pub mod Entering
pub mod Paging
pub mod Shelving
pub mod Wires
