mod FailuresLemmas
mod WholeLemmas
