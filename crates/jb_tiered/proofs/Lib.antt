pub mod PieceLemmas
pub mod FlatLemmas
pub mod SearchLemmas
pub mod CopyLemmas
