pub mod Changes
pub mod Fit
pub mod Seen
pub mod Small
pub mod Walk
