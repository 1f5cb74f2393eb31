-- The verbs of option negotiation, by their bytes and by their events (RFC 854, RFC 855).
use Rattle.std.specs.Prelude.{ℕ}
use Rattle.jb_telnet.specs.declared.codes.TheConstants.{WILL, WONT, DO, DONT}
use Rattle.jb_telnet.specs.declared.event.Event.{Event}
use Rattle.jb_telnet.specs.declared.event.Event.TheVariants.{Do as DoEvent, Dont as DontEvent, Will as WillEvent, Wont as WontEvent}
use Rattle.jb_telnet.specs.declared.verb.Verb.{Verb}
use Rattle.jb_telnet.specs.declared.verb.Verb.TheVariants.{Will, Wont, Do, Dont}

-- the command byte that says a verb
abbrev pub code_of : Verb → ℕ
code_of Will = WILL
code_of Wont = WONT
code_of Do = DO
code_of Dont = DONT

-- what a verb says of an option
abbrev pub said : Verb → ℕ → Event
said Will option = WillEvent option
said Wont option = WontEvent option
said Do option = DoEvent option
said Dont option = DontEvent option
