mod EditLemmas
pub mod IndexLaws
mod KeptLemmas
pub mod LiveLaws
mod MarkLemmas
mod PackIndexLemmas
mod RoomLemmas
