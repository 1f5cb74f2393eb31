-- How the options of a session stand, and what is answered to what the caller says of one (RFC 855, RFC 857, RFC 858).
use Rattle.std.specs.Prelude.{ℕ, ◌==◌, Bool, true, false, List, [], ◌∷◌, Option, Some, None, if◌then◌else◌}
use Rattle.jb_telnet.specs.declared.codes.TheConstants.{IAC, WILL}
use Rattle.jb_telnet.specs.declared.event.Event.{Event}
use Rattle.jb_telnet.specs.declared.event.Event.TheVariants.{Do as DoEvent, Dont as DontEvent, Will as WillEvent, Wont as WontEvent}
use Rattle.jb_telnet.specs.declared.verb.Verb.{Verb}
use Rattle.jb_telnet.specs.declared.verb.Verb.TheVariants.{Will, Wont, Do, Dont}
use Rattle.jb_telnet.specs.Codes.{code_of}
use Rattle.jb_option.specs.declared.options.TheConstants.{ECHO, SUPPRESS_GO_AHEAD}
use Rattle.jb_option.specs.declared.side.Side.{Side}
use Rattle.jb_option.specs.declared.side.Side.TheVariants.{Offered, On, Off}

-- the board's echo and suppress-go-ahead, and the caller's suppress-go-ahead
pub record Sides : Type 0 where
  pub echo : Side
  pub quiet : Side
  pub caller : Side

-- the board has offered its own, and has not asked for the caller's
abbrev pub first_sides : Sides
first_sides = record { echo = Offered; quiet = Offered; caller = Off }

-- what the board says first
abbrev pub greeting_bytes : List ℕ
greeting_bytes = IAC ∷ WILL ∷ ECHO ∷ IAC ∷ WILL ∷ SUPPRESS_GO_AHEAD ∷ []

-- the option is in use
abbrev pub is_on : Side → Bool
is_on On = true
is_on Offered = false
is_on Off = false

-- the table's answers, by what is said and how the option stands, where the board has it
abbrev pub verb_answer : Verb → Option Side → Option Verb
verb_answer Do (Some Offered) = None
verb_answer Do (Some Off) = Some Will
verb_answer Do (Some On) = None
verb_answer Do None = Some Wont
verb_answer Dont (Some Offered) = None
verb_answer Dont (Some On) = Some Wont
verb_answer Dont (Some Off) = None
verb_answer Dont None = None
verb_answer Will (Some Offered) = None
verb_answer Will (Some Off) = Some Do
verb_answer Will (Some On) = None
verb_answer Will None = Some Dont
verb_answer Wont (Some Offered) = None
verb_answer Wont (Some On) = Some Dont
verb_answer Wont (Some Off) = None
verb_answer Wont None = None

-- the table's new states: how an option stands once this was said of it
abbrev pub side_after : Verb → Side
side_after Do = On
side_after Dont = Off
side_after Will = On
side_after Wont = Off

-- an option that the board may perform
abbrev pub board_side : Sides → ℕ → Option Side
board_side sides option = if option == ECHO then Some sides.echo else if option == SUPPRESS_GO_AHEAD then Some sides.quiet else None

-- an option that the caller may perform
abbrev pub caller_side : Sides → ℕ → Option Side
caller_side sides option = if option == SUPPRESS_GO_AHEAD then Some sides.caller else None

-- how the option stands that is spoken of: the board's for do and dont, the caller's for will and wont
abbrev pub side_of : Sides → Verb → ℕ → Option Side
side_of sides Do option = board_side sides option
side_of sides Dont option = board_side sides option
side_of sides Will option = caller_side sides option
side_of sides Wont option = caller_side sides option

-- one of the board's options changes
abbrev pub with_board_side : Sides → ℕ → Side → Sides
with_board_side sides option side = if option == ECHO then record sides { echo = side } else if option == SUPPRESS_GO_AHEAD then record sides { quiet = side } else sides

-- one of the caller's options changes
abbrev pub with_caller_side : Sides → ℕ → Side → Sides
with_caller_side sides option side = if option == SUPPRESS_GO_AHEAD then record sides { caller = side } else sides

-- how the options stand once this was said of one
abbrev pub sides_heard : Sides → Verb → ℕ → Sides
sides_heard sides Do option = with_board_side sides option (side_after Do)
sides_heard sides Dont option = with_board_side sides option (side_after Dont)
sides_heard sides Will option = with_caller_side sides option (side_after Will)
sides_heard sides Wont option = with_caller_side sides option (side_after Wont)

-- a verb about an option, as it is sent, or nothing
abbrev pub spelled : Option Verb → ℕ → List ℕ
spelled None option = []
spelled (Some verb) option = IAC ∷ code_of verb ∷ option ∷ []

-- what is answered where this is said of an option
abbrev pub answer_heard : Sides → Verb → ℕ → List ℕ
answer_heard sides verb option = spelled (verb_answer verb (side_of sides verb option)) option

-- how the options stand after an event
abbrev pub sides_after : Sides → Event → Sides
sides_after sides (DoEvent option) = sides_heard sides Do option
sides_after sides (DontEvent option) = sides_heard sides Dont option
sides_after sides (WillEvent option) = sides_heard sides Will option
sides_after sides (WontEvent option) = sides_heard sides Wont option
sides_after sides _ = sides

-- what is answered to an event
abbrev pub option_answer : Sides → Event → List ℕ
option_answer sides (DoEvent option) = answer_heard sides Do option
option_answer sides (DontEvent option) = answer_heard sides Dont option
option_answer sides (WillEvent option) = answer_heard sides Will option
option_answer sides (WontEvent option) = answer_heard sides Wont option
option_answer sides _ = []
