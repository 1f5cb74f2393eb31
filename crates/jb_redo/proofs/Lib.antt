pub mod ApplyLemmas
pub mod CopyLemmas
mod DecodeLemmas
pub mod FieldLemmas
pub mod LengthLemmas
pub mod OneReading
pub mod PieceLemmas
pub mod RecordLemmas
pub mod SizeLemmas
pub mod SpanLemmas
pub mod Spelling
mod StandardFacts
pub mod WalkLemmas
pub mod WayLemmas
