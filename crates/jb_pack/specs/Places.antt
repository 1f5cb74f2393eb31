-- Where the next message goes.
use Rattle.std.specs.Prelude.{◌≡◌, ◌+◌}
use Rattle.jb_state.specs.Loaded.{header_size}
use Rattle.jb_state.specs.declared.loaded.LoadedMessage.{LoadedMessage}
use Rattle.jb_pack.specs.declared.place.Place.{Place}

-- the place right behind a live message that is put at this one
pub record IsBehind (message : LoadedMessage) (place next : Place) : Type 0 where
  pub number : next.number ≡ place.number + 1
  pub header_at : next.header_at ≡ place.header_at + header_size message
  pub text_at : next.text_at ≡ place.text_at + message.text_len
  pub live : next.live ≡ place.live + 1
