-- How many messages are live, whatever their texts are.
use Rattle.std.proofs.Common.{◌≡◌, ℕ, ◌+◌, ◌%◌, ◌^◌, List, [], sym, ◌∙◌, ap}
use Rattle.jb_state.specs.Live.{counted}
use Rattle.jb_state.specs.State.{AreaState, state_of}
use Rattle.jb_state.specs.declared.loaded.Loaded.{Loaded}
use Rattle.jb_state.specs.Change.{loaded_counted}
use Rattle.jb_pack.proofs.StateLemmas.{live_of_state}

-- the state with these numbers of changes and of live messages
abbrev pub with_numbers : ℕ → AreaState → ℕ → AreaState
with_numbers counter state active = record state { counter = counter; active = active }

-- a change that is counted, as the loaded area counts it
pub counted_now : (texts : List ℕ) (loaded : Loaded) → state_of texts (loaded_counted loaded) ≡ counted (state_of texts loaded)
counted_now texts loaded = ap (with_numbers ((loaded.counter + 1) % 2 ^ 32) (state_of texts loaded)) (live_of_state [] loaded.slots ∙ sym (live_of_state texts loaded.slots))
