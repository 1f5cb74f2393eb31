mod LeavesLemmas
pub mod Sums
