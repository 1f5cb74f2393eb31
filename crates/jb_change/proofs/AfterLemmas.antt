-- What the area after a change is, by what is put into its files.
use Rattle.std.proofs.Common.{◌≡◌, ℕ, ◌+◌, ◌*◌, ◌<◌, ◌%◌, ◌^◌, List, [], ◌∷◌, ◌++◌, length, Option, None, Some, ap, sym, refl, ◌∙◌, subst, arith}
use Rattle.std.specs.Prelude.{bit_and}
use Rattle.std.proofs.lemmas.List.{get_or_append_left, length-append, set-append_left}
use Rattle.std.proofs.lemmas.List.Elements.{All-get_or}
use Rattle.std.proofs.lemmas.Option.{get_or_from_slice_get, slice_get-get_or, slice_get_within}
use Rattle.jb_base.specs.declared.attribute.TheConstants.{DELETED}
use Rattle.jb_limits.specs.declared.limits.TheConstants.{MOST_SLOTS}
use Rattle.jb_state.specs.Change.{FitsAnew, FitsBehind, IsLinkOf, IsReadingOf, headed, headed_where, live_messages, loaded_counted}
use Rattle.jb_state.specs.Loaded.{IsMessageAt, with_counts, with_head_at, with_message_behind}
use Rattle.jb_state.specs.Sound.{IsMessageWithin, IsSlotWithin, IsSound}
use Rattle.jb_state.specs.declared.change.HeadAt.{HeadAt}
use Rattle.jb_state.specs.declared.loaded.Loaded.{Loaded}
use Rattle.jb_state.specs.declared.loaded.LoadedMessage.{LoadedMessage}
use Rattle.jb_state.specs.declared.loaded.LoadedSlot.{LoadedSlot}
use Rattle.jb_state.specs.declared.loaded.LoadedSlot.TheVariants.{Empty, Live}
use Rattle.jb_state.specs.declared.message.Head.{Head}
use Rattle.jb_change.specs.Changing.{head_with_links, head_with_reading}
use Rattle.jb_change.specs.Links.{HasNearHeaders}
use Rattle.jb_change.specs.Post.{IsAtEnds, IsNext}
use Rattle.jb_state.proofs.PlaceLaws.{headed_is, slot_is}

-- the counts of an area that is counted
pub counted_is : (loaded : Loaded) (counter active : ℕ) → counter ≡ (loaded.counter + 1) % 2 ^ 32 → active ≡ live_messages loaded → with_counts counter active loaded ≡ loaded_counted loaded
counted_is loaded counter active counted live =
    ap (λ (n : ℕ). with_counts n active loaded) counted ∙ ap (λ (n : ℕ). with_counts ((loaded.counter + 1) % 2 ^ 32) n loaded) live

-- one message stands at a place
same_message : (from : Loaded) (place : ℕ) (one other : LoadedMessage) → IsMessageAt from place one → IsMessageAt from place other → one ≡ other
same_message from place one other first second = live_same one other (sym first ∙ second)
  where
    live_same : (one other : LoadedMessage) → Some (Live one) ≡ Some (Live other) → one ≡ other
    live_same one other is = cc

-- the traces of a reading are all that the header of the message differs in
pub reading_is : (at : HeadAt) (message : LoadedMessage) (from : Loaded) → IsMessageAt from at.place message → IsReadingOf at from
    → with_head_at at.place (head_with_reading at.head message.head) message from ≡ headed at from
reading_is at message from here reading =
    let same : reading.message ≡ message = same_message from at.place reading.message message reading.here here in
    let head : head_with_reading at.head message.head ≡ at.head = ap (λ (m : LoadedMessage). head_with_reading at.head m.head) (sym same) ∙ sym reading.same in
    ap (λ (h : Head). with_head_at at.place h message from) head ∙ sym (headed_is at message from here)

-- a link is not counted
pub counter_where : (neighbour : Option HeadAt) (from : Loaded) → (headed_where neighbour from).counter ≡ from.counter
counter_where None from = refl
counter_where (Some one) from = refl

-- a message stays at its place with another one behind
pub here_behind : (place : ℕ) (message new : LoadedMessage) (from : Loaded) → IsMessageAt from place message → IsMessageAt (with_message_behind new from) place message
here_behind place message new from here =
    let within : place < length from.slots = slice_get_within from.slots place (Live message) here in
    let behind : List LoadedSlot = Live new ∷ [] in
    slice_get-get_or (from.slots ++ behind) place Empty (omega (arith, length-append from.slots behind))
    ∙ ap (λ (s : LoadedSlot). Some s) (get_or_append_left from.slots behind Empty place within ∙ get_or_from_slice_get from.slots place (Live message) Empty here)

-- the area with these slots
abbrev with_slots : List LoadedSlot → Loaded → Loaded
with_slots slots loaded = record loaded { slots = slots }

-- the three links of a header that differs in the two to answers alone are all that it differs in
links_are : (at : HeadAt) (message : LoadedMessage) (from : Loaded) → IsMessageAt from at.place message → IsLinkOf at from
    → head_with_links at.head.reply_to at.head.reply_first at.head.reply_next message.head ≡ at.head
links_are at message from here link =
    let same : link.message ≡ message = same_message from at.place link.message message link.here here in
    ap (λ (m : LoadedMessage). head_with_links at.head.reply_to at.head.reply_first at.head.reply_next m.head) (sym same)
    ∙ ap (λ (n : ℕ). head_with_links n at.head.reply_first at.head.reply_next link.message.head) (ap (λ (h : Head). h.reply_to) link.same) ∙ sym link.same

-- it is the same whether the neighbour is linked before or after the message is put behind
pub linked_behind : (one : HeadAt) (message new : LoadedMessage) (from : Loaded) → IsMessageAt from one.place message → IsLinkOf one from
    → with_head_at one.place (head_with_links one.head.reply_to one.head.reply_first one.head.reply_next message.head) message (with_message_behind new from)
    ≡ with_message_behind new (headed one from)
linked_behind one message new from here link =
    let slot : LoadedSlot = Live (record message { head = one.head }) in
    ap (λ (h : Head). with_head_at one.place h message (with_message_behind new from)) (links_are one message from here link)
    ∙ ap (λ (s : List LoadedSlot). with_slots s (with_message_behind new from)) (set-append_left from.slots (Live new ∷ []) one.place slot (slice_get_within from.slots one.place (Live message) here))
    ∙ ap (with_message_behind new) (sym (headed_is one message from here))

-- a live message in a sound area is within its files
within_is : (limit place : ℕ) (message : LoadedMessage) (from : Loaded) → IsMessageAt from place message → IsSound limit from
    → IsMessageWithin from.headers_len from.texts_len message
within_is limit place message from here sound =
    subst (IsSlotWithin from.headers_len from.texts_len) (slot_is from place message Empty here)
    (All-get_or (IsSlotWithin from.headers_len from.texts_len) from.slots place Empty (slice_get_within from.slots place _ here) sound.within)

-- the headers of a sound area can be written
pub near_headers : (limit : ℕ) (loaded : Loaded) → IsSound limit loaded → HasNearHeaders loaded
near_headers limit loaded sound = λ place message here.
    let below = (within_is limit place message loaded here sound).header.below in
    omega (arith, below)

-- a message that fits behind the others is the next one
pub next_is : (loaded : Loaded) (message : LoadedMessage) (text : List ℕ) → FitsBehind MOST_SLOTS message loaded → message.text_len ≡ length text → IsNext loaded message text
next_is loaded message text fits sized =
    let number = fits.number in
    let short = fits.short in
    record {
      ends = record {
        header_at = fits.header_at;
        text_at = fits.text_at;
        text_len = sized;
        live = fits.live;
        few_bytes = fits.few_bytes;
        short_text = omega (arith, short, sized);
        headers_fit = fits.headers;
        texts_fit = fits.texts;
      };
      numbers = omega (arith, number);
      few_slots = fits.slot;
    }

-- and one that fits into the place of another stands at the ends of the files
pub anew_is : (loaded : Loaded) (place : ℕ) (message : LoadedMessage) (text : List ℕ) → IsSound MOST_SLOTS loaded → FitsAnew place message loaded → message.text_len ≡ length text
    → IsAtEnds loaded message text
anew_is loaded place message text sound fits sized =
    let short = fits.short in
    record {
      header_at = fits.header_at;
      text_at = fits.text_at;
      text_len = sized;
      live = subst (λ (h : Head). bit_and h.attribute DELETED ≡ 0) (sym fits.head) (within_is MOST_SLOTS place fits.was loaded fits.here sound).live;
      few_bytes = fits.few_bytes;
      short_text = omega (arith, short, sized);
      headers_fit = fits.headers;
      texts_fit = fits.texts;
    }

-- the index record of a live message can be written
pub near_record : (loaded : Loaded) (place : ℕ) (message : LoadedMessage) → IsSound MOST_SLOTS loaded → IsMessageAt loaded place message → 8 * place < 2 ^ 32
near_record loaded place message sound here =
    let within : place < length loaded.slots = slice_get_within loaded.slots place (Live message) here in
    omega (arith, within, sound.few_slots)
