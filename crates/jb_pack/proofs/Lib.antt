pub mod CopiesLemmas
mod CopyLemmas
mod FinishLemmas
mod FitLemmas
pub mod HeldLemmas
mod LaidLemmas
mod MoveLemmas
pub mod PackerLemmas
pub mod PlanLemmas
mod PuttingLemmas
pub mod RestLemmas
pub mod ShadowLemmas
mod SlotLemmas
pub mod SoundLemmas
mod StandLemmas
pub mod StateLemmas
pub mod TouchLemmas
mod WholeLemmas
