-- What a reply tells of the change behind it: that it writes a text, packs the area, or leaves the texts as they are.
use Rattle.jb_state.specs.declared.change.Change.{Change}
use Rattle.jb_state.specs.declared.change.Change.TheVariants as changes
use Rattle.jb_model.specs.declared.reply.Reply.{Reply}
use Rattle.jb_model.specs.declared.reply.Reply.TheVariants.{Edited, Packed, Posted}

-- the change is that the area is packed
abbrev pub IsPacking : Change → Type 0
IsPacking (changes.Packed plan base) = Unit {0}
IsPacking _ = ⊥

-- the change puts a text behind the others
abbrev pub WritesText : Change → Type 0
WritesText (changes.Posted message neighbour) = Unit {0}
WritesText (changes.Edited place message) = Unit {0}
WritesText _ = ⊥

-- the change, if it is one, leaves the texts as they are
abbrev pub KeepsTexts : Change → Type 0
KeepsTexts changes.Nothing = Unit {0}
KeepsTexts (changes.Headed at) = Unit {0}
KeepsTexts (changes.Killed place) = Unit {0}
KeepsTexts (changes.Relinked plan) = Unit {0}
KeepsTexts (changes.Marked place mark) = Unit {0}
KeepsTexts _ = ⊥

-- whoever has the reply knows what the change does to the texts
abbrev pub IsToldBy : Reply → Change → Type 0
IsToldBy (Posted number) change = WritesText change
IsToldBy (Edited number) change = WritesText change
IsToldBy (Packed base live dropped) change = IsPacking change
IsToldBy _ change = KeepsTexts change
