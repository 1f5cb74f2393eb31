mod AfterLemmas
mod AreaLemmas
mod BaseLemmas
mod ByteLemmas
mod ChangeLemmas
mod EditedLemmas
pub mod EndLemmas
mod HeaderLemmas
mod KeptLemmas
pub mod LeavesLemmas
mod LoadsLemmas
mod LongerLemmas
mod MarkLemmas
mod PieceLemmas
mod PlanLemmas
pub mod PostLemmas
mod ReadingLemmas
mod UpdateLemmas
