mod PageLemmas
mod MoveLemmas
mod Asking
mod CallerLemmas
