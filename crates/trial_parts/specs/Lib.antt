pub mod Leaves
pub mod Sums
pub mod Totals
