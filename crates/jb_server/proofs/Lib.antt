mod BackupRuns
mod DueLemmas
mod Pagers
mod RingRuns
mod SessionRuns
mod Told
