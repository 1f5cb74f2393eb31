pub mod ListLemmas
pub mod MakingLemmas
pub mod PlaceLemmas
pub mod ThreadLemmas
pub mod AreaLemmas
pub mod EditLemmas
pub mod SlotLemmas
pub mod ChangeLemmas
pub mod PostLemmas
pub mod KillLemmas
pub mod RelinkLemmas
mod StandardFacts
