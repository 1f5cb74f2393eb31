-- What links do to an area, and what puts them there.
use Rattle.std.proofs.Common.{◌≡◌, ℕ, zero, suc, ◌+◌, ◌-◌, ◌≤◌, ◌<◌, Bool, true, false, cond, ◌==◌, ◌&&◌, not, nat_lt, le-ltb, ltb-false, eqb-true, List, [], ◌∷◌, ◌++◌, get_or, set, slice_get, Option, None, Some, ap, sym, refl, ◌∙◌, subst, arith}
use Rattle.std.proofs.lemmas.Bool.{false≢true}
use Rattle.std.proofs.lemmas.List.{set-get_or}
use Rattle.std.proofs.lemmas.Option.{get_or_from_slice_get, slice_get-get_or}
use Rattle.jb_disk.specs.RedoView.{RedoView}
use Rattle.jb_disk.specs.declared.file.FileId.TheVariants.{Jhr}
use Rattle.jb_state.specs.Linked.{IsPlaced, linked_head, with_links_in, with_links_of}
use Rattle.jb_state.specs.LiveSlots.{message_in}
use Rattle.jb_state.specs.Loaded.{IsMessageAt, with_head_at}
use Rattle.jb_state.specs.Plan.{differs, has_links, loaded_at}
use Rattle.jb_state.specs.declared.links.Links.{Links}
use Rattle.jb_state.specs.declared.loaded.Loaded.{Loaded}
use Rattle.jb_state.specs.declared.loaded.LoadedMessage.{LoadedMessage}
use Rattle.jb_state.specs.declared.loaded.LoadedSlot.{LoadedSlot}
use Rattle.jb_state.specs.declared.loaded.LoadedSlot.TheVariants.{Empty, Killed, Live}
use Rattle.jb_state.specs.declared.message.Head.{Head}
use Rattle.jb_change.specs.Changing.{ChangesHead, ChangesHeader, WritesOnly, head_with_links, header_with_links}
use Rattle.jb_change.specs.Headers.{Updates}
use Rattle.jb_change.specs.Links.{AreLeftAbove}
use Rattle.jb_change.proofs.UpdateLemmas.{updates_links}
use Rattle.jb_state.proofs.LinkedLaws.{links_of_more}

-- a message that a number names stands at its place
named_at_place : (loaded : Loaded) (number : ℕ) (message : LoadedMessage) → loaded_at loaded number ≡ Some message → (loaded.base ≤ number) × IsMessageAt loaded (number - loaded.base) message
named_at_place loaded number message is = by_order (nat_lt number loaded.base) refl (slice_get loaded.slots (number - loaded.base)) refl is
  where
    by_order : (below : Bool) → nat_lt number loaded.base ≡ below → (slot : Option LoadedSlot) → slice_get loaded.slots (number - loaded.base) ≡ slot
        → cond below None (message_in slot) ≡ Some message → (loaded.base ≤ number) × IsMessageAt loaded (number - loaded.base) message
    by_order true t slot at h = absurd (cc)
    by_order false t None at h = absurd (cc)
    by_order false t (Some Empty) at h = absurd (cc)
    by_order false t (Some (Killed header_at)) at h = absurd (cc)
    by_order false t (Some (Live other)) at h =
        let same : other ≡ message = cc in
        (ltb-false number loaded.base t, at ∙ ap (λ m. Some (Live m)) same)

-- links are not counted
counter_in : (links : Links) (found : Option LoadedMessage) (loaded : Loaded) → (with_links_in links found loaded).counter ≡ loaded.counter
counter_in links None loaded = refl
counter_in links (Some message) loaded = refl

-- nor are those of a plan
pub counter_of : (plan : List Links) (loaded : Loaded) → (with_links_of plan loaded).counter ≡ loaded.counter
counter_of [] loaded = refl
counter_of (links ∷ plan) loaded =
    counter_of plan (with_links_in links (loaded_at loaded links.number) loaded) ∙ counter_in links (loaded_at loaded links.number) loaded

-- where the header of a message stands, where there is one
abbrev header_of : Option LoadedMessage → Option ℕ
header_of None = None
header_of (Some message) = Some message.header_at

-- fields of a header leave all headers in their places
headers_set : (slots : List LoadedSlot) (p k : ℕ) (message : LoadedMessage) (head : Head) → slice_get slots p ≡ Some (Live message)
    → header_of (message_in (slice_get (set slots p (Live (record message { head = head }))) k)) ≡ header_of (message_in (slice_get slots k))
headers_set [] p k message head here = refl
headers_set (slot ∷ slots) zero zero message head here = sym (ap (λ o. header_of (message_in o)) here)
headers_set (slot ∷ slots) zero (suc k) message head here = refl
headers_set (slot ∷ slots) (suc p) zero message head here = refl
headers_set (slot ∷ slots) (suc p) (suc k) message head here = headers_set slots p k message head here

-- links leave all headers in their places
headers_in : (links : Links) (found : Option LoadedMessage) (loaded : Loaded) (number : ℕ) → loaded_at loaded links.number ≡ found
    → header_of (loaded_at (with_links_in links found loaded) number) ≡ header_of (loaded_at loaded number)
headers_in links None loaded number at = refl
headers_in links (Some message) loaded number at = by_low (nat_lt number loaded.base)
  where
    changed : LoadedSlot
    changed = Live (record message { head = record message.head { reply_to = links.reply_to; reply_first = links.first; reply_next = links.next } })

    by_low : (low : Bool) → header_of (cond low None (message_in (slice_get (set loaded.slots (links.number - loaded.base) changed) (number - loaded.base))))
        ≡ header_of (cond low None (message_in (slice_get loaded.slots (number - loaded.base))))
    by_low true = refl
    by_low false = headers_set loaded.slots (links.number - loaded.base) (number - loaded.base) message _ (named_at_place loaded links.number message at).1

-- so do those of a plan
headers_of : (plan : List Links) (loaded : Loaded) (number : ℕ) → header_of (loaded_at (with_links_of plan loaded) number) ≡ header_of (loaded_at loaded number)
headers_of [] loaded number = refl
headers_of (links ∷ plan) loaded number =
    headers_of plan (with_links_in links (loaded_at loaded links.number) loaded) number ∙ headers_in links (loaded_at loaded links.number) loaded number refl

-- what a slot holds is what its number names
loaded_at_is : (loaded : Loaded) (links : Links) (slot : LoadedSlot) → IsPlaced loaded links → slot ≡ get_or loaded.slots (links.number - loaded.base) slot
    → loaded_at loaded links.number ≡ message_in (Some slot)
loaded_at_is loaded links slot placed is =
    let place : ℕ = links.number - loaded.base in
    let low : nat_lt links.number loaded.base ≡ false = le-ltb links.number loaded.base placed.low in
    ap (λ b. cond b None (message_in (slice_get loaded.slots place))) low
    ∙ ap message_in (slice_get-get_or loaded.slots place slot placed.within ∙ ap (λ (s : LoadedSlot). Some s) (sym is))

-- no place is that of a header
no_header : (at : ℕ) → None ≡ Some at → ⊥
no_header at is = cc

-- one place
one_header : (one other : ℕ) → Some one ≡ Some other → one ≡ other
one_header one other is = cc

-- the links of a live message are put behind those of others
pub links_put : (old new : RedoView) (loaded : Loaded) (before : List Links) (links : Links) (message : LoadedMessage) → loaded_at loaded links.number ≡ Some message
    → ChangesHead old new message.header_at (head_with_links links.reply_to links.first links.next)
    → ChangesHeader old new message.header_at (header_with_links links.reply_to links.first links.next) → WritesOnly old new Jhr (message.header_at + 24) 12
    → Updates old loaded (with_links_of before loaded) [] → Updates new loaded (with_links_of (before ++ links ∷ []) loaded) []
links_put old new loaded before links message here changes header only made = by_found (loaded_at to links.number) refl
  where
    to : Loaded
    to = with_links_of before loaded

    same : header_of (loaded_at to links.number) ≡ Some message.header_at
    same = headers_of before loaded links.number ∙ ap header_of here

    by_found : (found : Option LoadedMessage) → loaded_at to links.number ≡ found → Updates new loaded (with_links_of (before ++ links ∷ []) loaded) []
    by_found None at = absurd (no_header message.header_at (sym (ap header_of at) ∙ same))
    by_found (Some now) at =
        subst (λ (l : Loaded). Updates new loaded l []) (ap (λ (o : Option LoadedMessage). with_links_in links o to) (sym at) ∙ sym (links_of_more before links loaded))
        (updates_links old new message.header_at links.reply_to links.first links.next changes header only loaded to [] (links.number - to.base) now made (named_at_place to links.number now at).1
        (one_header now.header_at message.header_at (sym (ap header_of at) ∙ same)))

-- where no message is live, links change nothing
pub links_not_put : (loaded : Loaded) (before : List Links) (links : Links) → loaded_at loaded links.number ≡ None
    → with_links_of before loaded ≡ with_links_of (before ++ links ∷ []) loaded
links_not_put loaded before links none = by_found (loaded_at to links.number) refl
  where
    to : Loaded
    to = with_links_of before loaded

    by_found : (found : Option LoadedMessage) → loaded_at to links.number ≡ found → to ≡ with_links_of (before ++ links ∷ []) loaded
    by_found None at = sym (links_of_more before links loaded ∙ ap (λ (o : Option LoadedMessage). with_links_in links o to) at)
    by_found (Some now) at = absurd (no_header now.header_at (sym (ap header_of none) ∙ sym (headers_of before loaded links.number) ∙ ap header_of at))

-- a slot without a live message has none
not_live : (slot : LoadedSlot) → ((message : LoadedMessage) → slot ≡ Live message → ⊥) → message_in (Some slot) ≡ None
not_live Empty none = refl
not_live (Killed header_at) none = refl
not_live (Live message) none = absurd (none message refl)

-- what a slot holds is what its number names
pub here_live : (loaded : Loaded) (links : Links) (slot : LoadedSlot) (message : LoadedMessage) → IsPlaced loaded links → slot ≡ get_or loaded.slots (links.number - loaded.base) slot
    → slot ≡ Live message → loaded_at loaded links.number ≡ Some message
here_live loaded links slot message placed is live = loaded_at_is loaded links slot placed is ∙ ap (λ (s : LoadedSlot). message_in (Some s)) live

-- and where that is no live message, it names none
pub here_none : (loaded : Loaded) (links : Links) (slot : LoadedSlot) → IsPlaced loaded links → slot ≡ get_or loaded.slots (links.number - loaded.base) slot
    → ((message : LoadedMessage) → slot ≡ Live message → ⊥) → loaded_at loaded links.number ≡ None
here_none loaded links slot placed is none = loaded_at_is loaded links slot placed is ∙ not_live slot none

-- all three
all_three : (a b c : Bool) → (a && b && c) ≡ true → (a ≡ true) × (b ≡ true) × (c ≡ true)
all_three false b c is = absurd (false≢true is)
all_three true false c is = absurd (false≢true is)
all_three true true false is = absurd (false≢true is)
all_three true true true is = (refl, refl, refl)

-- what is not untrue
is_true : (b : Bool) → not b ≡ false → b ≡ true
is_true true is = refl
is_true false is = absurd (false≢true (sym is))

-- links that a header has change nothing in it
linked_same : (links : Links) (head : Head) → has_links head links ≡ true → linked_head links head ≡ head
linked_same links head has =
    let all = all_three (head.reply_to == links.reply_to) (head.reply_first == links.first) (head.reply_next == links.next) has in
    ap (λ (n : ℕ). record head { reply_to = n; reply_first = links.first; reply_next = links.next }) (sym (eqb-true head.reply_to links.reply_to all.0))
    ∙ ap (λ (n : ℕ). record head { reply_first = n; reply_next = links.next }) (sym (eqb-true head.reply_first links.first all.1))
    ∙ ap (λ (n : ℕ). record head { reply_next = n }) (sym (eqb-true head.reply_next links.next all.2))

-- a message's own fields change nothing in the area
with_same : (place : ℕ) (message : LoadedMessage) (loaded : Loaded) → IsMessageAt loaded place message → with_head_at place message.head message loaded ≡ loaded
with_same place message loaded here =
    ap (λ (s : LoadedSlot). record loaded { slots = set loaded.slots place s }) (sym (get_or_from_slice_get loaded.slots place (Live message) Empty here))
    ∙ ap (λ (s : List LoadedSlot). record loaded { slots = s }) (set-get_or loaded.slots place Empty)

-- where the message is as it was before other links, and had these, they change nothing behind the others
pub links_there : (loaded : Loaded) (before : List Links) (links : Links) → loaded_at (with_links_of before loaded) links.number ≡ loaded_at loaded links.number
    → differs (loaded_at loaded links.number) links ≡ false → with_links_of before loaded ≡ with_links_of (before ++ links ∷ []) loaded
links_there loaded before links same has = by_found (loaded_at to links.number) refl
  where
    to : Loaded
    to = with_links_of before loaded

    by_found : (found : Option LoadedMessage) → loaded_at to links.number ≡ found → to ≡ with_links_of (before ++ links ∷ []) loaded
    by_found None at = sym (links_of_more before links loaded ∙ ap (λ (o : Option LoadedMessage). with_links_in links o to) at)
    by_found (Some message) at =
        let in_head : has_links message.head links ≡ true = is_true (has_links message.head links) (ap (λ (o : Option LoadedMessage). differs o links) (sym at ∙ same) ∙ has) in
        sym (links_of_more before links loaded ∙ ap (λ (o : Option LoadedMessage). with_links_in links o to) at
        ∙ ap (λ (h : Head). with_head_at (links.number - to.base) h message to) (linked_same links message.head in_head)
        ∙ with_same (links.number - to.base) message to (named_at_place to links.number message at).1)

-- a slot put below a place
set_below : (slots : List LoadedSlot) (p k : ℕ) (slot : LoadedSlot) → p < k → slice_get (set slots p slot) k ≡ slice_get slots k
set_below [] p k slot low = refl
set_below (first ∷ slots) zero zero slot low = absurd (omega (arith, low))
set_below (first ∷ slots) zero (suc k) slot low = refl
set_below (first ∷ slots) (suc p) zero slot low = absurd (omega (arith, low))
set_below (first ∷ slots) (suc p) (suc k) slot low = set_below slots p k slot (omega (arith, low))

-- links leave the messages with higher numbers
above_in : (links : Links) (found : Option LoadedMessage) (loaded : Loaded) (number : ℕ) → loaded_at loaded links.number ≡ found → links.number < number
    → loaded_at (with_links_in links found loaded) number ≡ loaded_at loaded number
above_in links None loaded number at low = refl
above_in links (Some message) loaded number at low = by_low (nat_lt number loaded.base)
  where
    slot : LoadedSlot
    slot = Live (record message { head = linked_head links message.head })

    by_low : (below : Bool) → cond below None (message_in (slice_get (set loaded.slots (links.number - loaded.base) slot) (number - loaded.base)))
        ≡ cond below None (message_in (slice_get loaded.slots (number - loaded.base)))
    by_low true = refl
    by_low false = let from = (named_at_place loaded links.number message at).0 in ap message_in (set_below loaded.slots (links.number - loaded.base) (number - loaded.base) slot (omega (arith, from, low)))

-- what is left so by links behind others
pub left_above : (loaded : Loaded) (before : List Links) (links : Links) (last next : ℕ) → AreLeftAbove before last loaded → last ≤ next → links.number ≤ next
    → AreLeftAbove (before ++ links ∷ []) next loaded
left_above loaded before links last next left more past = λ number low.
    let to : Loaded = with_links_of before loaded in
    ap (λ (l : Loaded). loaded_at l number) (links_of_more before links loaded)
    ∙ above_in links (loaded_at to links.number) to number refl (omega (arith, past, low)) ∙ left number (omega (arith, more, low))
