pub mod BackupLemmas
pub mod OpeningLemmas
pub mod RefusalLemmas
