mod BackedLemmas
mod BackingLemmas
mod ChangingLemmas
mod CommandLemmas
mod CompleteLemmas
mod CountLemmas
mod FigureLemmas
pub mod Recovering
mod TendLemmas
mod MakingLemmas
mod NewBaseLemmas
mod LoadBaseLemmas
mod LoadEndLemmas
mod LoadRunLemmas
mod LoadUnreadLemmas
mod StandardFacts
