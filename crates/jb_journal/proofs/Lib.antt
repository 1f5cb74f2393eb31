mod ComingLemmas
mod CommitLemmas
mod CopyLemmas
mod FilingLemmas
pub mod FirmLemmas
mod GatherLemmas
mod OpenedLemmas
mod OpeningLemmas
mod Patching
mod PieceLemmas
pub mod PrepareLemmas
mod PutsLemmas
mod ReadyLemmas
mod RecordAndOpen
mod RecordLemmas
pub mod RecoverLemmas
mod SettingLemmas
pub mod SettleLemmas
mod SyncLemmas
pub mod Told
mod Touching
mod WriteAndClose
