-- Reply links and threads after the JAM proposal ("Reply linking"): small areas by hand, and a drawn one by the rule of the parent
-- as it was written out plainly in another language.
use Rattle.std.proofs.Common.{◌≡◌, ℕ, List, [], ◌∷◌, Option, Some, None, codes, map, refl}
use Rattle.jb_state.specs.Plan.{plan_of}
use Rattle.jb_link.specs.Splice.{spliced}
use Rattle.jb_link.specs.Thread.{thread_of}
use Rattle.jb_link.specs.declared.splicing.Spliced.TheVariants.{None as Nothing, First, After}
use Rattle.jb_state.specs.Links.{Linkable, parent_for}
use Rattle.jb_state.specs.declared.links.Links.{Links}

-- a live message: its number, its MSGID and its REPLYID where it has them, and the ReplyTo that its header keeps
abbrev one : ℕ → Option (List ℕ) → Option (List ℕ) → ℕ → Linkable
one number msgid replyid kept = record { number = number; msgid = msgid; replyid = replyid; kept = kept }

-- the links of a message: its parent, its first reply, and the next reply to its parent
abbrev linked : ℕ → ℕ → ℕ → ℕ → Links
linked number parent first next = record { number = number; reply_to = parent; first = first; next = next }

-- an id of this board, two ids of one CRC, and one without a byte
abbrev first : List ℕ
first = codes "2:5020/1042 01000001"

abbrev capital : List ℕ
capital = codes "2:1/1 0000000A"

abbrev small : List ℕ
small = codes "2:1/1 0000000a"

abbrev empty : List ℕ
empty = []

-- 2 answered 1 and was killed, and then 3 answers 1
abbrev answered_anew : List Linkable
answered_anew = one 1 (Some first) None 0 ∷ one 3 None (Some first) 1 ∷ []

anew : (parent_for (one 1 (Some first) None 0 ∷ []) 3 (Some first) 1 ≡ 1) × (spliced (one 1 (Some first) None 0 ∷ []) 1 ≡ First 1)
    × (plan_of answered_anew ≡ linked 1 0 3 0 ∷ linked 3 1 0 0 ∷ []) × (spliced answered_anew 1 ≡ After 3) × (spliced answered_anew 0 ≡ Nothing)
    × (thread_of answered_anew 1 ≡ 1 ∷ 3 ∷ [])
anew = (refl, refl, refl, refl, refl, refl)

-- ids of one CRC are told apart
one_crc : plan_of (one 1 (Some capital) None 0 ∷ one 2 (Some small) None 0 ∷ one 3 None (Some small) 0 ∷ []) ≡ linked 1 0 0 0 ∷ linked 2 0 3 0 ∷ linked 3 2 0 0 ∷ []
one_crc = refl

-- of two with one id the lower is answered, and without an id the number that is kept
abbrev one_id : List Linkable
one_id = one 5 (Some first) None 0 ∷ one 6 (Some first) None 0 ∷ one 7 None (Some first) 6 ∷ one 8 (Some capital) None 6 ∷ one 9 (Some capital) None 6 ∷ []

lower_of_two : (plan_of one_id ≡ linked 5 0 7 0 ∷ linked 6 0 8 0 ∷ linked 7 5 0 0 ∷ linked 8 6 0 9 ∷ linked 9 6 0 0 ∷ [])
    × (map (spliced one_id) (5 ∷ 6 ∷ 8 ∷ []) ≡ After 7 ∷ After 9 ∷ First 8 ∷ []) × (thread_of one_id 9 ≡ 6 ∷ 8 ∷ 9 ∷ [])
lower_of_two = (refl, refl, refl)

-- what is no lower live message is no parent: an id that comes later, a killed number, the own one, an id without a byte that one has,
-- a higher number, an id that nobody has
abbrev no_parents : List Linkable
no_parents = one 1 (Some first) (Some capital) 0 ∷ one 3 None None 2 ∷ one 4 (Some empty) None 4 ∷ one 5 None (Some empty) 1 ∷ one 6 (Some capital) None 7
    ∷ one 7 None (Some (codes "none")) 1 ∷ []

no_lower : (plan_of no_parents ≡ linked 1 0 0 0 ∷ linked 3 0 0 0 ∷ linked 4 0 5 0 ∷ linked 5 4 0 0 ∷ linked 6 0 0 0 ∷ linked 7 0 0 0 ∷ [])
    × (parent_for no_parents 8 None 7 ≡ 7) × (parent_for no_parents 8 None 8 ≡ 0)
no_lower = (refl, refl, refl)

-- a drawn area of 40 slots
abbrev drawn : List Linkable
drawn =
    one 5 None (Some first) 5 ∷ one 6 (Some capital) (Some small) 3 ∷ one 7 (Some empty) None 22 ∷ one 8 None (Some empty) 10
    ∷ one 9 (Some small) (Some capital) 14 ∷ one 10 None (Some empty) 17 ∷ one 11 (Some empty) (Some capital) 33 ∷ one 12 (Some small) (Some first) 0
    ∷ one 13 (Some first) (Some small) 38 ∷ one 14 None (Some first) 21 ∷ one 15 (Some small) (Some capital) 6 ∷ one 16 (Some first) None 36
    ∷ one 17 (Some capital) (Some first) 17 ∷ one 19 (Some empty) None 31 ∷ one 20 None (Some empty) 25 ∷ one 21 (Some small) None 1
    ∷ one 22 None None 29 ∷ one 23 (Some capital) None 25 ∷ one 24 None (Some first) 19 ∷ one 25 (Some empty) (Some small) 23
    ∷ one 26 (Some small) (Some small) 20 ∷ one 27 (Some small) None 37 ∷ one 29 (Some empty) None 28 ∷ one 31 None None 26
    ∷ one 33 (Some first) None 12 ∷ one 34 (Some empty) (Some small) 38 ∷ one 35 (Some small) (Some empty) 19 ∷ one 36 (Some capital) None 22
    ∷ one 37 (Some empty) (Some empty) 10 ∷ one 38 (Some first) (Some first) 28 ∷ one 39 None (Some small) 15 ∷ one 40 None (Some small) 10 ∷ []

drawn_links : plan_of drawn ≡
    linked 5 0 0 0 ∷ linked 6 0 9 0 ∷ linked 7 0 8 0 ∷ linked 8 7 0 10 ∷ linked 9 6 13 11 ∷ linked 10 7 0 20 ∷ linked 11 6 0 15 ∷ linked 12 0 33 0
    ∷ linked 13 9 14 25 ∷ linked 14 13 0 17 ∷ linked 15 6 0 0 ∷ linked 16 0 0 0 ∷ linked 17 13 0 24 ∷ linked 19 0 0 0 ∷ linked 20 7 0 35
    ∷ linked 21 0 0 0 ∷ linked 22 0 36 0 ∷ linked 23 0 0 0 ∷ linked 24 13 0 38 ∷ linked 25 9 0 26 ∷ linked 26 9 31 34 ∷ linked 27 0 0 0
    ∷ linked 29 0 0 0 ∷ linked 31 26 0 0 ∷ linked 33 12 0 0 ∷ linked 34 9 0 39 ∷ linked 35 7 0 37 ∷ linked 36 22 0 0 ∷ linked 37 7 0 0
    ∷ linked 38 13 0 0 ∷ linked 39 9 0 40 ∷ linked 40 9 0 0 ∷ []
drawn_links = refl

-- and two of its threads
drawn_threads : (thread_of drawn 6 ≡ 6 ∷ 9 ∷ 11 ∷ 13 ∷ 14 ∷ 15 ∷ 17 ∷ 24 ∷ 25 ∷ 26 ∷ 31 ∷ 34 ∷ 38 ∷ 39 ∷ 40 ∷ []) × (thread_of drawn 7 ≡ 7 ∷ 8 ∷ 10 ∷ 20 ∷ 35 ∷ 37 ∷ [])
drawn_threads = (refl, refl)
