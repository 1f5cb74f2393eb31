-- Who may do what in an area.
use Rattle.std.specs.Prelude.{ℕ, Bool, false, not, ◌&&◌, ◌||◌, nat_lt, nat_le, ◌==◌, bit_and, List, [], ◌∷◌, find, Option, None, Some, is_none}
use Rattle.jb_bytes.specs.Name.{same_name}
use Rattle.jb_base.specs.declared.area.Action.{Action}
use Rattle.jb_base.specs.declared.area.Action.TheVariants.{List as Listing, Post as Posting, Kill as Killing, Edit as Editing, Tend as Tending}
use Rattle.jb_base.specs.declared.area.AreaRules.{AreaRules}
use Rattle.jb_base.specs.declared.area.Rule.{Rule}
use Rattle.jb_base.specs.declared.area.Rule.TheVariants.{A1, A2, A3, A4, A5, A6}
use Rattle.jb_base.specs.declared.attribute.TheConstants.{PRIVATE, NODISP}
use Rattle.jb_base.specs.declared.user.User.{User}

-- what the rules look at of a message: sender, receiver and attribute
pub record Envelope : Type 0 where
  pub sender : List ℕ
  pub receiver : List ℕ
  pub attribute : ℕ

-- the user is the sysop of the area
abbrev pub is_sysop : User → AreaRules → Bool
is_sysop user rules = nat_le rules.sysop user.level

-- the user is the message's sender
abbrev pub is_sender : User → Envelope → Bool
is_sender user message = same_name user.name message.sender

-- the user is the message's sender or its receiver
abbrev pub is_party : User → Envelope → Bool
is_party user message = same_name user.name message.sender || same_name user.name message.receiver

-- the message has this attribute
abbrev pub has_attribute : ℕ → Envelope → Bool
has_attribute bit message = not (bit_and message.attribute bit == 0)

-- every act but tending needs the level that reads
abbrev pub refuses_reading : User → AreaRules → Action → Bool
refuses_reading user rules Tending = false
refuses_reading user rules act = nat_lt user.level rules.read

-- a post needs the level that posts
abbrev pub refuses_posting : User → AreaRules → Action → Bool
refuses_posting user rules Posting = nat_lt user.level rules.post
refuses_posting user rules act = false

-- the message is not to be shown, or it is private and not the user's
abbrev pub is_withheld : User → Envelope → Bool
is_withheld user message = has_attribute NODISP message || (has_attribute PRIVATE message && not (is_party user message))

-- a message that is withheld is for the sysop alone, whatever the act
abbrev pub refuses_showing : User → AreaRules → Option Envelope → Bool
refuses_showing user rules None = false
refuses_showing user rules (Some message) = not (is_sysop user rules) && is_withheld user message

-- a kill needs a party of the message or the sysop
abbrev pub refuses_killing : User → AreaRules → Action → Option Envelope → Bool
refuses_killing user rules Killing (Some message) = not (is_sysop user rules) && not (is_party user message)
refuses_killing user rules Killing None = not (is_sysop user rules)
refuses_killing user rules act message = false

-- tending needs the sysop
abbrev pub refuses_tending : User → AreaRules → Action → Bool
refuses_tending user rules Tending = not (is_sysop user rules)
refuses_tending user rules act = false

-- an edit needs the message's sender or the sysop
abbrev pub refuses_editing : User → AreaRules → Action → Option Envelope → Bool
refuses_editing user rules Editing (Some message) = not (is_sysop user rules) && not (is_sender user message)
refuses_editing user rules Editing None = not (is_sysop user rules)
refuses_editing user rules act message = false

-- this rule refuses the act
abbrev pub refuses : User → AreaRules → Action → Option Envelope → Rule → Bool
refuses user rules act message A1 = refuses_reading user rules act
refuses user rules act message A2 = refuses_posting user rules act
refuses user rules act message A3 = refuses_showing user rules message
refuses user rules act message A4 = refuses_killing user rules act message
refuses user rules act message A5 = refuses_tending user rules act
refuses user rules act message A6 = refuses_editing user rules act message

-- the first rule that refuses the act, if one does
abbrev pub first_refusal : User → AreaRules → Action → Option Envelope → Option Rule
first_refusal user rules act message = find (refuses user rules act message) (A1 ∷ A2 ∷ A3 ∷ A4 ∷ A5 ∷ A6 ∷ [])

-- the user may see the message listed
abbrev pub is_visible : User → AreaRules → Envelope → Bool
is_visible user rules message = is_none (first_refusal user rules Listing (Some message))
