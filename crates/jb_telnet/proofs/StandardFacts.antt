-- Streams after RFC 854 and RFC 855 with their events, so that a wrong code or grammar does not check.
use Rattle.std.proofs.Common.{◌≡◌, ℕ, zero, suc, List, [], ◌∷◌, ◌++◌, Some, None, map, flat_map, refl, sym, ◌∙◌}
use Rattle.std.proofs.lemmas.Option.{none-some}
use Rattle.std.specs.List.{range_with_len}
use Rattle.jb_telnet.specs.declared.event.Event.{Event}
use Rattle.jb_telnet.specs.declared.event.Event.TheVariants.{Byte, Do, Dont, Will, Wont, AreYouThere, EraseChar, EraseLine, Sub, Other}
use Rattle.jb_telnet.specs.declared.verb.Verb.TheVariants.{Will as WillVerb, Wont as WontVerb, Do as DoVerb, Dont as DontVerb}
use Rattle.jb_telnet.specs.Codes.{code_of}
use Rattle.jb_telnet.specs.Front.{First, first_unit}
use Rattle.jb_telnet.specs.Units.{CutsInto, doubled}
use Rattle.jb_telnet.proofs.Cuts.{none_from}
use Rattle.jb_telnet.proofs.Fronts.{found_first}

-- the units at the front of these bytes, so many at most, and what they leave
abbrev units_from : ℕ → List ℕ → First → List Event × List ℕ
units_from n bytes None = ([], bytes)
units_from zero bytes (Some found) = ([], bytes)
units_from (suc n) bytes (Some found) =
    let more = units_from n found.1 (first_unit found.1) in
    (found.0 ∷ more.0, more.1)

-- where no unit is left, the bytes are cut into these
cut_from : (n : ℕ) (bytes : List ℕ) (first : First) → first_unit bytes ≡ first → first_unit (units_from n bytes first).1 ≡ None
    → CutsInto bytes (units_from n bytes first).0 (units_from n bytes first).1
cut_from n bytes None is none = (refl, none_from bytes is)
cut_from zero bytes (Some found) is none = absurd (none-some found (sym none ∙ is))
cut_from (suc n) bytes (Some found) is none = (found.1, (found_first bytes).each found.0 found.1 is, cut_from n found.1 (first_unit found.1) refl none)

-- bytes are themselves, and 255 is doubled
bytes : CutsInto (97 ∷ 0 ∷ 13 ∷ 10 ∷ 255 ∷ 255 ∷ 254 ∷ []) (Byte 97 ∷ Byte 0 ∷ Byte 13 ∷ Byte 10 ∷ Byte 255 ∷ Byte 254 ∷ []) []
bytes = cut_from 9 (97 ∷ 0 ∷ 13 ∷ 10 ∷ 255 ∷ 255 ∷ 254 ∷ []) _ refl refl

-- what is said of options, of which one may be 240 or 255
abbrev said_of_options : List ℕ
said_of_options = 255 ∷ 251 ∷ 1 ∷ 255 ∷ 252 ∷ 3 ∷ 255 ∷ 253 ∷ 255 ∷ 255 ∷ 254 ∷ 240 ∷ []

options : CutsInto said_of_options (Will 1 ∷ Wont 3 ∷ Do 255 ∷ Dont 240 ∷ []) []
options = cut_from 9 said_of_options _ refl refl

-- a subnegotiation is one event: the terminal's type, whose name holds 255 and then 240, and one that ends behind a pair
abbrev two_subnegotiations : List ℕ
two_subnegotiations = 255 ∷ 250 ∷ 24 ∷ 0 ∷ 65 ∷ 255 ∷ 255 ∷ 240 ∷ 66 ∷ 255 ∷ 240 ∷ 99 ∷ 255 ∷ 250 ∷ 255 ∷ 250 ∷ 240 ∷ 255 ∷ 240 ∷ []

subnegotiations : CutsInto two_subnegotiations (Sub ∷ Byte 99 ∷ Sub ∷ []) []
subnegotiations = cut_from 9 two_subnegotiations _ refl refl

-- one that does not end is left
abbrev open_subnegotiation : List ℕ
open_subnegotiation = 255 ∷ 250 ∷ 24 ∷ 255 ∷ 255 ∷ 240 ∷ []

unfinished : CutsInto (97 ∷ open_subnegotiation) (Byte 97 ∷ []) open_subnegotiation
unfinished = cut_from 9 (97 ∷ open_subnegotiation) _ refl refl

-- a lone command behind 255, with nothing behind it
lone : Event → First
lone event = Some (event, [])

-- each byte behind 255 is a command of its own, or begins a longer one (RFC 854, "TELNET command structure")
commands : map (λ code. first_unit (255 ∷ code ∷ [])) (range_with_len 0 256) ≡ map (λ code. lone (Other code)) (range_with_len 0 246)
    ++ lone AreYouThere ∷ lone EraseChar ∷ lone EraseLine ∷ lone (Other 249) ∷ None ∷ None ∷ None ∷ None ∷ None ∷ lone (Byte 255) ∷ []
unfolding lone
commands = refl

-- the codes of the verbs, and what is sent for data
codes_of_verbs : map code_of (WillVerb ∷ WontVerb ∷ DoVerb ∷ DontVerb ∷ []) ≡ 251 ∷ 252 ∷ 253 ∷ 254 ∷ []
codes_of_verbs = refl

sent : flat_map doubled (255 ∷ 255 ∷ 97 ∷ 254 ∷ 255 ∷ []) ≡ 255 ∷ 255 ∷ 255 ∷ 255 ∷ 97 ∷ 254 ∷ 255 ∷ 255 ∷ []
sent = refl
