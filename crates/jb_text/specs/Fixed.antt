-- The texts that are always the same.
use Rattle.std.specs.Prelude.{ℕ, List, codes}
use Rattle.jb_text.specs.declared.standing.Fixed.{Fixed}
use Rattle.jb_text.specs.declared.standing.Fixed.TheVariants.{AskName, AskPassword, LoginIncorrect, Goodbye, NoSuchArea, NoUnread, NoMessageShown, AskTo, AskSubject, AskEdit, AskPrivate, Cancelled, TextFull, TextLine, Nothing, NoSuchNode, AskPage, PageSent, PagesSpent, NoPages, UnknownCommand, TopPrompt}

-- the bytes of each, without an end of line
abbrev pub fixed_text : Fixed → List ℕ
fixed_text AskName = codes "Name: "
fixed_text AskPassword = codes "Password: "
fixed_text LoginIncorrect = codes "Login incorrect."
fixed_text Goodbye = codes "Goodbye."
fixed_text NoSuchArea = codes "No such area."
fixed_text NoUnread = codes "No unread messages."
fixed_text NoMessageShown = codes "No message shown."
fixed_text AskTo = codes "To: "
fixed_text AskSubject = codes "Subject: "
fixed_text AskEdit = codes "Subject (empty keeps): "
fixed_text AskPrivate = codes "Private (Y/N): "
fixed_text Cancelled = codes "Cancelled."
fixed_text TextFull = codes "Text full, line dropped."
fixed_text TextLine = codes "Text, . ends, ! cancels"
fixed_text Nothing = codes "Nothing."
fixed_text NoSuchNode = codes "No such node."
fixed_text AskPage = codes "Page: "
fixed_text PageSent = codes "Sent."
fixed_text PagesSpent = codes "Pages spent."
fixed_text NoPages = codes "No pages."
fixed_text UnknownCommand = codes "Unknown command."
fixed_text TopPrompt = codes "Top> "
