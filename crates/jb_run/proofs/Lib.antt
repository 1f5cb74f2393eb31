pub mod Counting
pub mod EachLemmas
pub mod RowLemmas
pub mod DeskLemmas
pub mod WholeLemmas
pub mod OpenLemmas
pub mod StoppedLemmas
pub mod ClaimLemmas
pub mod LifeLemmas
pub mod EndLemmas
pub mod CloseLemmas
pub mod AbandonLemmas
pub mod RefuseLemmas
pub mod Callers
pub mod Keeping
pub mod Places
pub mod Passing
pub mod LocalRefusing
mod Lists
mod Zips
mod Numbers
mod Own
mod PagerLemmas
mod Doors
mod TargetPlaces
mod TargetLemmas
mod Crew
mod Starts
mod OverLemmas
pub mod LocalServing
mod NodesClosing
mod NodesRefusing
mod NodesServing
mod Naming
mod Completing
mod Reaching
