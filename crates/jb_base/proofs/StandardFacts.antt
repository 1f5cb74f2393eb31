-- Values from outside of this repository, so that a wrong bit or rule in a definition does not check.
use Rattle.std.proofs.Common.{◌≡◌, ℕ, ◌^◌, List, [], ◌∷◌, Option, Some, None, map, codes, refl}
use Rattle.jb_base.specs.Access.{Envelope, first_refusal}
use Rattle.jb_base.specs.declared.area.Action.{Action}
use Rattle.jb_base.specs.declared.area.Action.TheVariants.{List as Listing, Post as Posting, Kill as Killing, Edit as Editing, Tend as Tending}
use Rattle.jb_base.specs.declared.area.AreaRules.{AreaRules}
use Rattle.jb_base.specs.declared.area.Kind.TheVariants.{Local}
use Rattle.jb_base.specs.declared.area.Rule.{Rule}
use Rattle.jb_base.specs.declared.area.Rule.TheVariants.{A1, A2, A3, A4, A5, A6}
use Rattle.jb_base.specs.declared.attribute.TheConstants.{LOCAL, PRIVATE, READ, TYPELOCAL, TYPEECHO, NODISP, DELETED}

-- the bits of the attribute (JAM, "Attribute")
attributes : (LOCAL ≡ 2 ^ 0) × (PRIVATE ≡ 2 ^ 2) × (READ ≡ 2 ^ 3) × (TYPELOCAL ≡ 2 ^ 23) × (TYPEECHO ≡ 2 ^ 24) × (NODISP ≡ 2 ^ 29) × (DELETED ≡ 2 ^ 31)
attributes = (refl, refl, refl, refl, refl, refl, refl)

-- an area that these levels read, post in and tend
abbrev rules_of : ℕ → ℕ → ℕ → AreaRules
rules_of read post sysop = record { ordinal = 1; address = codes "2:5020/1042"; kind = Local; read = read; post = post; sysop = sysop; slots = 16000 }

-- users of these levels, where 10 reads, 20 posts and 100 is the sysop, do this about a message or none
abbrev refusals : Action → Option Envelope → List ℕ → List (Option Rule)
refusals action message levels = map (λ level. first_refusal (record { name = codes "Test"; id = 7; level = level }) (rules_of 10 20 100) action message) levels

-- each act asks for its level, as the words of the rules say: at each limit, and below it
levels : (refusals Listing None (0 ∷ 9 ∷ 10 ∷ 255 ∷ []) ≡ Some A1 ∷ Some A1 ∷ None ∷ None ∷ [])
    × (refusals Posting None (0 ∷ 9 ∷ 10 ∷ 19 ∷ 20 ∷ 255 ∷ []) ≡ Some A1 ∷ Some A1 ∷ Some A2 ∷ Some A2 ∷ None ∷ None ∷ [])
    × (refusals Tending None (0 ∷ 9 ∷ 20 ∷ 99 ∷ 100 ∷ 255 ∷ []) ≡ Some A5 ∷ Some A5 ∷ Some A5 ∷ Some A5 ∷ None ∷ None ∷ [])
levels = (refl, refl, refl)

-- a sysop who may not read may tend, and a level that posts alone posts nothing
uneven : map (λ action. first_refusal (record { name = codes "Test"; id = 7; level = 20 }) (rules_of 50 5 20) action None) (Tending ∷ Posting ∷ []) ≡ None ∷ Some A1 ∷ []
uneven = refl

-- a message between these, with this attribute
abbrev between : List ℕ → List ℕ → ℕ → Option Envelope
between from to attribute = Some (record { sender = from; receiver = to; attribute = attribute })

-- a public message is killed by its parties and the sysop, and listed by all
public_message : (refusals Killing (between (codes "Hello") (codes "All") 1) (99 ∷ 100 ∷ []) ≡ Some A4 ∷ None ∷ [])
    × (refusals Killing (between (codes "tEST") (codes "Hello") 1) (99 ∷ []) ≡ None ∷ []) × (refusals Killing (between (codes "Hello") (codes "TEST") 1) (99 ∷ []) ≡ None ∷ [])
    × (refusals Killing (between (codes "Hello") (codes "Test ") 1) (99 ∷ []) ≡ Some A4 ∷ []) × (refusals Killing (between [] [] 0) (99 ∷ []) ≡ Some A4 ∷ [])
    × (refusals Listing (between (codes "Hello") (codes "All") 0xDFFFFFFB) (99 ∷ []) ≡ None ∷ [])
public_message = (refl, refl, refl, refl, refl, refl)

-- a private one is for these alone
private_message : (refusals Listing (between (codes "Hello") (codes "All") 4) (99 ∷ 100 ∷ []) ≡ Some A3 ∷ None ∷ [])
    × (refusals Killing (between (codes "Hello") (codes "All") 4) (99 ∷ []) ≡ Some A3 ∷ []) × (refusals Listing (between (codes "test") (codes "Hello") 4) (99 ∷ []) ≡ None ∷ [])
    × (refusals Killing (between (codes "Hello") (codes "test") 4) (99 ∷ []) ≡ None ∷ [])
private_message = (refl, refl, refl, refl)

-- one is edited by its sender and the sysop, not by its receiver, and at the level that reads
edited_message : (refusals Editing (between (codes "tEST") (codes "Hello") 1) (9 ∷ 10 ∷ 99 ∷ []) ≡ Some A1 ∷ None ∷ None ∷ [])
    × (refusals Editing (between (codes "Hello") (codes "Test") 1) (9 ∷ 99 ∷ 100 ∷ []) ≡ Some A1 ∷ Some A6 ∷ None ∷ [])
    × (refusals Editing (between [] (codes "Test") 0) (99 ∷ []) ≡ Some A6 ∷ [])
    × (refusals Editing (between (codes "Hello") (codes "All") 4) (99 ∷ 100 ∷ []) ≡ Some A3 ∷ None ∷ [])
    × (refusals Editing (between (codes "Test") (codes "Test") 0x20000000) (99 ∷ 100 ∷ []) ≡ Some A3 ∷ None ∷ [])
    × (refusals Editing None (99 ∷ 100 ∷ []) ≡ Some A6 ∷ None ∷ [])
edited_message = (refl, refl, refl, refl, refl, refl)

-- one that is not to be shown is for the sysop, and the first rule that refuses is told
unshown_message : (refusals Listing (between (codes "Test") (codes "Test") 0x20000000) (9 ∷ 19 ∷ 99 ∷ 100 ∷ []) ≡ Some A1 ∷ Some A3 ∷ Some A3 ∷ None ∷ [])
    × (refusals Posting (between (codes "Hello") (codes "All") 0x20000000) (9 ∷ 19 ∷ 99 ∷ 100 ∷ []) ≡ Some A1 ∷ Some A2 ∷ Some A3 ∷ None ∷ [])
    × (refusals Killing (between (codes "Hello") (codes "All") 0x20000000) (9 ∷ 19 ∷ 99 ∷ 100 ∷ []) ≡ Some A1 ∷ Some A3 ∷ Some A3 ∷ None ∷ [])
    × (refusals Tending (between (codes "Hello") (codes "All") 0x20000000) (9 ∷ 19 ∷ 99 ∷ 100 ∷ []) ≡ Some A3 ∷ Some A3 ∷ Some A3 ∷ None ∷ [])
unshown_message = (refl, refl, refl, refl)
