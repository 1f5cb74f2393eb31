pub mod MarkLemmas
pub mod OrderLemmas
pub mod SetLaws
