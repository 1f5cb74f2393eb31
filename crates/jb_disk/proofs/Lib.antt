mod CrashLemmas
pub mod FileLemmas
mod KeptLemmas
mod MemoryLemmas
pub mod RunLemmas
pub mod StepLemmas
mod TraceLemmas
