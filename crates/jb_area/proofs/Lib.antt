pub mod BackupLemmas
pub mod BegunLemmas
pub mod CallLemmas
mod CommitLemmas
mod CopyingLemmas
mod DoubtLemmas
mod EditLemmas
pub mod HoldLemmas
mod MeasureLemmas
mod Outcomes
mod PackedLemmas
pub mod ReadingLemmas
mod StageLemmas
mod StartLemmas
mod StepLemmas
