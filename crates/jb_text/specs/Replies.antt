-- What is said of each reply of an area.
use Rattle.std.specs.Prelude.{ℕ, List, [], ◌++◌, codes, decimal}
use Rattle.jb_base.specs.declared.area.Rule.{Rule}
use Rattle.jb_base.specs.declared.area.Rule.TheVariants.{A1, A2, A3, A4, A5, A6}
use Rattle.jb_model.specs.declared.command.Field.{Field}
use Rattle.jb_model.specs.declared.command.Field.TheVariants as field
use Rattle.jb_model.specs.declared.reply.Reply.{Reply}
use Rattle.jb_model.specs.declared.reply.Reply.TheVariants as reply

-- a sentence with a number in it
abbrev pub sentence : List ℕ → ℕ → List ℕ → List ℕ
sentence before number after = before ++ decimal number ++ after

-- the name of a rule of an area
abbrev pub rule_name : Rule → List ℕ
rule_name A1 = codes "A1"
rule_name A2 = codes "A2"
rule_name A3 = codes "A3"
rule_name A4 = codes "A4"
rule_name A5 = codes "A5"
rule_name A6 = codes "A6"

-- the name of a part of a message
abbrev pub field_name : Field → List ℕ
field_name field.To = codes "To"
field_name field.Subject = codes "Subject"
field_name field.Text = codes "Text"

-- the line of a reply, without its end; a letter is shown as a letter, and has none
abbrev pub reply_text : Reply → List ℕ
reply_text (reply.Posted number) = sentence (codes "Posted as ") number (codes ".")
reply_text (reply.Edited number) = sentence (codes "Edited ") number (codes ".")
reply_text (reply.Text letter) = []
reply_text (reply.Killed number) = sentence (codes "Killed ") number (codes ".")
reply_text (reply.Marked last high) = sentence (codes "Mark is ") last (codes ", high ") ++ decimal high ++ codes "."
reply_text (reply.Packed base live dropped) =
    sentence (codes "Packed: base ") base (codes ", live ") ++ decimal live ++ codes ", dropped " ++ decimal dropped ++ codes "."
reply_text (reply.Relinked changed) = sentence (codes "Relinked: ") changed (codes " changed.")
reply_text (reply.Denied rule) = codes "Denied by rule " ++ rule_name rule ++ codes "."
reply_text (reply.NoMessage number) = codes "No such message."
reply_text (reply.TooLong field length) = codes "Field " ++ field_name field ++ codes " too long: " ++ decimal length ++ codes " bytes."
reply_text (reply.EmptyName field) = codes "Field " ++ field_name field ++ codes " is empty."
reply_text (reply.SlotsFull slots) = sentence (codes "Area full: ") slots (codes " slots.")
reply_text (reply.SubfieldsFull length) = sentence (codes "Subfields full: ") length (codes " bytes.")
reply_text (reply.HeadersFull length) = codes "Headers full."
reply_text (reply.TextFull length) = codes "Texts full."
reply_text (reply.NumbersSpent next) = sentence (codes "Numbers spent at ") next (codes ".")
reply_text (reply.MarksFull marks) = codes "Marks full."
