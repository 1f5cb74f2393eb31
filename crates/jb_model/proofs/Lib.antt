pub mod EditLaws
pub mod HistoryLaws
pub mod RangeLaws
pub mod RelinkStepLaws
mod Rows
pub mod SettledLaws
pub mod StepLaws
