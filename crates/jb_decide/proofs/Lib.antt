pub mod AgreeLemmas
mod AnewLemmas
mod BehindLemmas
pub mod BringLemmas
pub mod CopiesLemmas
mod CountLemmas
pub mod DecidedLemmas
mod EditLemmas
mod HeaderLemmas
mod KillLemmas
mod MarkLemmas
mod NeighbourLemmas
pub mod PackLemmas
mod PostLemmas
mod ReadLemmas
mod RelinkLemmas
mod SoundLemmas
mod StateLemmas
mod StepLemmas
mod PostLaws
