-- What a decoder keeps in each phase, and the first unit from there on.
use Rattle.std.specs.Prelude.{◌≡◌, ℕ, false, true, List, [], ◌∷◌, Option, Some, None}
use Rattle.jb_telnet.specs.declared.codes.TheConstants.{SB, IAC}
use Rattle.jb_telnet.specs.declared.event.Event.{Event}
use Rattle.jb_telnet.specs.declared.decoder.Phase.{Phase}
use Rattle.jb_telnet.specs.declared.decoder.Phase.TheVariants.{Text, Command, Verb, Block, Escape}
use Rattle.jb_telnet.specs.Codes.{code_of}
use Rattle.jb_telnet.specs.Front.{First, first_unit, behind_iac, behind_verb, behind_block}

-- bytes that lead from between units to this phase
abbrev pub phase_bytes : Phase → List ℕ
phase_bytes Text = []
phase_bytes Command = IAC ∷ []
phase_bytes (Verb verb) = IAC ∷ code_of verb ∷ []
phase_bytes Block = IAC ∷ SB ∷ []
phase_bytes Escape = IAC ∷ SB ∷ IAC ∷ []

-- the first unit, where the decoder is in this phase and these bytes come
abbrev pub first_behind : Phase → List ℕ → First
first_behind Text bytes = first_unit bytes
first_behind Command bytes = behind_iac bytes
first_behind (Verb verb) bytes = behind_verb verb bytes
first_behind Block bytes = behind_block false bytes
first_behind Escape bytes = behind_block true bytes

-- and where a byte has led to this phase, and may have ended the unit
abbrev pub first_or_given : Phase → Option Event → List ℕ → First
first_or_given phase None bytes = first_behind phase bytes
first_or_given phase (Some event) bytes = Some (event, bytes)

-- the decoder is between units where one has ended
abbrev pub EndsInText : Phase → Option Event → Type 0
EndsInText phase None = Unit {0}
EndsInText phase (Some event) = phase ≡ Text
