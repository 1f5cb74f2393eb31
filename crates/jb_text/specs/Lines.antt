-- The lines of a session that name an area, a user, a message or a node.
use Rattle.std.specs.Prelude.{ℕ, List, [], ◌∷◌, ◌++◌, codes, decimal}
use Rattle.jb_text.specs.Numbers.{left_in, right_in}
use Rattle.jb_text.specs.Shown.{shown}

-- the end of a line
abbrev pub line_end : List ℕ
line_end = 13 ∷ 10 ∷ []

-- what a session begins with: the board's name, and the first question
abbrev pub start_text : List ℕ → List ℕ
start_text board = shown board ++ line_end ++ codes "Name: "

-- the greeting of a user who has logged in
abbrev pub welcome_text : List ℕ → List ℕ
welcome_text name = codes "Welcome, " ++ shown name ++ codes "."

-- the prompt of an area
abbrev pub prompt_text : List ℕ → List ℕ
prompt_text area = codes "[" ++ shown area ++ codes "] "

-- an area in the list of areas: its number, its name and how much is unread
abbrev pub area_line_text : ℕ → List ℕ → ℕ → List ℕ
area_line_text ordinal name unread =
    right_in 3 ordinal ++ codes "  " ++ left_in 24 (shown name) ++ right_in 6 unread ++ codes " unread"

-- what an area holds, as a user enters it
abbrev pub figures_text : ℕ → ℕ → List ℕ
figures_text visible unread = decimal visible ++ codes " visible, " ++ decimal unread ++ codes " unread."

-- the message that is answered, before the answer is written
abbrev pub replying_text : List ℕ → List ℕ → List ℕ
replying_text from subject = codes "Reply to " ++ shown from ++ codes ", subject " ++ shown subject

-- a message in a list: number, sender, receiver and subject
abbrev pub listing_text : ℕ → List ℕ → List ℕ → List ℕ → List ℕ
listing_text number from to subject =
    right_in 8 number ++ codes "  " ++ shown from ++ codes " > " ++ shown to ++ codes "  " ++ shown subject

-- as many pages as there is room for wait for the node
abbrev pub node_full_text : ℕ → List ℕ
node_full_text node = codes "Node " ++ decimal node ++ codes " is full."

-- a page, with the node that sent it
abbrev pub page_line_text : ℕ → List ℕ → List ℕ
page_line_text from page = codes "Page from node " ++ decimal from ++ codes ": " ++ shown page
