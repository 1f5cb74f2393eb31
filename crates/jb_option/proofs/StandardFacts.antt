-- Answers about options after RFC 854, RFC 857 and RFC 858: each event in each state, and a later event that tells the new state.
use Rattle.std.proofs.Common.{◌≡◌, ℕ, List, [], ◌∷◌, true, false, map, refl}
use Rattle.jb_telnet.specs.declared.event.Event.TheVariants.{Byte, Do, Dont, Will, Wont, AreYouThere, EraseChar, EraseLine, Sub, Other}
use Rattle.jb_option.specs.Events.{option_answers, sides_of}
use Rattle.jb_option.specs.Table.{greeting_bytes, is_on}

-- the board offers to echo and to suppress go-ahead
greeting : greeting_bytes ≡ 255 ∷ 251 ∷ 1 ∷ 255 ∷ 251 ∷ 3 ∷ []
greeting = refl

-- answers that accept or refuse an option of the board
abbrev will : ℕ → List ℕ
will option = 255 ∷ 251 ∷ option ∷ []

abbrev wont : ℕ → List ℕ
wont option = 255 ∷ 252 ∷ option ∷ []

-- an option that the board offered: accepted and refused at once, and changed later; the same once more is not answered
offered : (option_answers (Do 1 ∷ Dont 1 ∷ Dont 1 ∷ Do 1 ∷ Do 1 ∷ Dont 1 ∷ []) ≡ [] ∷ wont 1 ∷ [] ∷ will 1 ∷ [] ∷ wont 1 ∷ [])
    × (option_answers (Dont 1 ∷ Dont 1 ∷ Do 1 ∷ Dont 1 ∷ []) ≡ [] ∷ [] ∷ will 1 ∷ wont 1 ∷ [])
    × (option_answers (Do 3 ∷ Dont 3 ∷ Dont 3 ∷ Do 3 ∷ Do 3 ∷ Dont 3 ∷ []) ≡ [] ∷ wont 3 ∷ [] ∷ will 3 ∷ [] ∷ wont 3 ∷ [])
    × (option_answers (Dont 3 ∷ Dont 3 ∷ Do 3 ∷ Dont 3 ∷ []) ≡ [] ∷ [] ∷ will 3 ∷ wont 3 ∷ [])
offered = (refl, refl, refl, refl)

-- the caller's suppress-go-ahead, which the board has not asked for
of_the_caller : (option_answers (Will 3 ∷ Will 3 ∷ Wont 3 ∷ Will 3 ∷ []) ≡ (255 ∷ 253 ∷ 3 ∷ []) ∷ [] ∷ (255 ∷ 254 ∷ 3 ∷ []) ∷ (255 ∷ 253 ∷ 3 ∷ []) ∷ [])
    × (option_answers (Wont 3 ∷ Will 3 ∷ []) ≡ [] ∷ (255 ∷ 253 ∷ 3 ∷ []) ∷ [])
of_the_caller = (refl, refl)

-- options that the board does not have are refused each time, and their refusal is not answered
unknown : (option_answers (Do 24 ∷ Do 24 ∷ Dont 24 ∷ Do 24 ∷ []) ≡ wont 24 ∷ wont 24 ∷ [] ∷ wont 24 ∷ [])
    × (option_answers (Will 1 ∷ Will 1 ∷ Wont 1 ∷ Will 255 ∷ Wont 255 ∷ []) ≡ (255 ∷ 254 ∷ 1 ∷ []) ∷ (255 ∷ 254 ∷ 1 ∷ []) ∷ [] ∷ (255 ∷ 254 ∷ 255 ∷ []) ∷ [] ∷ [])
unknown = (refl, refl)

-- events that are about no option
others : option_answers (Byte 1 ∷ Sub ∷ AreYouThere ∷ Other 253 ∷ EraseChar ∷ EraseLine ∷ []) ≡ [] ∷ [] ∷ [] ∷ [] ∷ [] ∷ [] ∷ []
others = refl

-- the board echoes when it is told to, and ceases when it is told not to
echoes : map (λ events. is_on (sides_of events).echo) ([] ∷ (Do 3 ∷ []) ∷ (Do 3 ∷ Do 1 ∷ []) ∷ (Do 3 ∷ Do 1 ∷ Will 1 ∷ []) ∷ (Do 3 ∷ Do 1 ∷ Will 1 ∷ Dont 1 ∷ []) ∷ [])
    ≡ false ∷ false ∷ true ∷ true ∷ false ∷ []
echoes = refl
