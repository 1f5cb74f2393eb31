pub mod AnswerLemmas
pub mod BeginLemmas
pub mod Callers
pub mod CopyLemmas
pub mod TargetLemmas
