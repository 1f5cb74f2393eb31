-- What the traces of a reading make of the area that a change makes: three numbers, put one after another.
use Rattle.std.proofs.Common.{◌≡◌, ℕ, ◌+◌, ◌<◌, List, ap, ◌∙◌, sym, refl, subst, arith, length-set}
use Rattle.std.specs.Prelude.{Some, ◌^◌, bit_and, slice_set}
use Rattle.std.proofs.lemmas.List.{get_or-set_same, set-set}
use Rattle.std.proofs.lemmas.Option.{slice_get_within, slice_get-get_or}
use Rattle.jb_base.specs.declared.attribute.TheConstants.{DELETED}
use Rattle.jb_bytes.specs.Number.{number_bytes}
use Rattle.jb_bytes.proofs.Numbers.{little_endian-back}
use Rattle.jb_disk.specs.RedoView.{RedoView}
use Rattle.jb_disk.specs.declared.file.FileId.TheVariants.{Jhr}
use Rattle.jb_state.specs.Loaded.{IsMessageAt, with_head_at}
use Rattle.jb_state.specs.declared.loaded.Loaded.{Loaded}
use Rattle.jb_state.specs.declared.loaded.LoadedMessage.{LoadedMessage}
use Rattle.jb_state.specs.declared.loaded.LoadedSlot.{LoadedSlot}
use Rattle.jb_state.specs.declared.loaded.LoadedSlot.TheVariants.{Live}
use Rattle.jb_state.specs.declared.message.Head.{Head}
use Rattle.jb_record.specs.declared.message.MessageHeader.{MessageHeader}
use Rattle.jb_image.specs.Places.{header_in}
use Rattle.jb_image.specs.Stands.{head_of}
use Rattle.jb_change.specs.Changing.{ChangesHead, ChangesHeader, WritesOnly, Puts, head_with_reading, header_with_attribute, header_with_reading}
use Rattle.jb_change.specs.Makes.{Makes}
use Rattle.jb_redo.specs.Changes.{changed}
use Rattle.jb_change.proofs.ChangeLemmas.{IsInHeader, one_inside, header_put_there, header_only, head_makes}
use Rattle.jb_change.proofs.HeaderLemmas.{with_bytes}
use Rattle.jb_change.proofs.PieceLemmas.{only_then, put_only}

-- the message that was put at a place stands there
message_put : (to : Loaded) (place : ℕ) (message : LoadedMessage) (head : Head) → IsMessageAt to place message → IsMessageAt (with_head_at place head message to) place (record message { head = head })
message_put to place message head there =
    let other = Live (record message { head = head }) in
    let inside = slice_get_within to.slots place (Live message) there in
    let size = length-set to.slots place other in
    slice_get-get_or (slice_set to.slots place other) place other (omega arith) ∙ ap (λ (s : LoadedSlot). Some s) (get_or-set_same to.slots place other other inside)

module _ (at : ℕ) (reading : Head) (first second third fourth : RedoView) (fits : at + 76 < 2 ^ 32) (live : bit_and reading.attribute DELETED ≡ 0)
    (times_fit : reading.times_read < 2 ^ 32) (date_fits : reading.received < 2 ^ 32) (bits_fit : reading.attribute < 2 ^ 32)
    (puts_times : Puts Jhr (at + 12) (number_bytes 4 reading.times_read) first second) (puts_date : Puts Jhr (at + 40) (number_bytes 4 reading.received) second third)
    (puts_bits : Puts Jhr (at + 52) (number_bytes 4 reading.attribute) third fourth) where
  -- what is written: TimesRead
  abbrev times : List ℕ
  times = number_bytes 4 reading.times_read

  -- DateReceived
  abbrev date : List ℕ
  date = number_bytes 4 reading.received

  -- and Attribute
  abbrev bits : List ℕ
  bits = number_bytes 4 reading.attribute

  -- where it stands: TimesRead
  times_inside : IsInHeader at 12 times
  times_inside = one_inside at 12 reading.times_read (omega arith) (omega arith) refl fits

  -- DateReceived
  date_inside : IsInHeader at 40 date
  date_inside = one_inside at 40 reading.received (omega arith) (omega arith) refl fits

  -- Attribute
  bits_inside : IsInHeader at 52 bits
  bits_inside = one_inside at 52 reading.attribute (omega arith) (omega arith) refl fits

  -- a header with TimesRead
  times_are : (header : MessageHeader) → with_bytes 12 times header ≡ record header { times_read = reading.times_read }
  times_are header =
      let is = little_endian-back 4 reading.times_read times_fit in
      λ i. record header { times_read = is i }

  -- with DateReceived
  date_is : (header : MessageHeader) → with_bytes 40 date header ≡ record header { received = reading.received }
  date_is header =
      let is = little_endian-back 4 reading.received date_fits in
      λ i. record header { received = is i }

  -- with Attribute
  bits_are : (header : MessageHeader) → with_bytes 52 bits header ≡ header_with_attribute reading.attribute header
  bits_are header =
      let is = little_endian-back 4 reading.attribute bits_fit in
      λ i. record header { attribute = is i }

  module _ (from to : Loaded) (text : List ℕ) (place : ℕ) (message : LoadedMessage) (makes : Makes first from to text) (there : IsMessageAt to place message) (is : message.header_at ≡ at) where
    -- the message and the area after the first, and after the second
    abbrev counted : LoadedMessage
    counted = record message { head = record message.head { times_read = reading.times_read } }

    abbrev dated : LoadedMessage
    dated = record counted { head = record counted.head { received = reading.received } }

    abbrev with_times : Loaded
    with_times = with_head_at place counted.head message to

    abbrev with_date : Loaded
    with_date = with_head_at place dated.head counted with_times

    -- what the change makes then
    times_make : Makes second from with_times text
    times_make = head_makes at 12 times first second puts_times times_inside from to text place message makes there is counted.head
        (λ header head_is. ap (λ (h : Head). record h { times_read = reading.times_read }) head_is ∙ ap head_of (sym (times_are header))) (λ undeleted. undeleted)

    times_there : IsMessageAt with_times place counted
    times_there = message_put to place message counted.head there

    date_makes : Makes third from with_date text
    date_makes = head_makes at 40 date second third puts_date date_inside from with_times text place counted times_make times_there is dated.head
        (λ header head_is. ap (λ (h : Head). record h { received = reading.received }) head_is ∙ ap head_of (sym (date_is header))) (λ undeleted. undeleted)

    date_there : IsMessageAt with_date place dated
    date_there = message_put with_times place counted dated.head times_there

    -- and after all of them
    all_make : Makes fourth from (with_head_at place (head_with_reading reading message.head) dated with_date) text
    all_make = head_makes at 52 bits third fourth puts_bits bits_inside from with_date text place dated date_makes date_there is (head_with_reading reading message.head)
        (λ header head_is. ap (λ (h : Head). record h { attribute = reading.attribute }) head_is ∙ ap head_of (sym (bits_are header))) (λ undeleted. live)

    -- the slot that is set last is the one that counts
    set_once : with_head_at place (head_with_reading reading message.head) dated with_date ≡ with_head_at place (head_with_reading reading message.head) message to
    set_once =
        let last = Live (record message { head = head_with_reading reading message.head }) in
        ap (λ (slots : List LoadedSlot). record to { slots = slots })
        (ap (λ (slots : List LoadedSlot). slice_set slots place last) (set-set to.slots place (Live counted) (Live dated)) ∙ set-set to.slots place (Live dated) last)

  -- no byte outside the header is another, after the first
  times_only : WritesOnly first second Jhr at 76
  times_only = header_only at 12 times first second puts_times times_inside

  -- after the second
  date_only : WritesOnly first third Jhr at 76
  date_only = only_then Jhr at 76 first second third times_only (header_only at 40 date second third puts_date date_inside)

  -- nor one outside of TimesRead to Attribute, after all of them
  pub reading_only : WritesOnly first fourth Jhr (at + 12) 44
  reading_only =
      only_then Jhr (at + 12) 44 first third fourth
      (only_then Jhr (at + 12) 44 first second third
      (put_only Jhr (at + 12) times first second puts_times (at + 12) 44 (omega arith) (omega arith))
      (put_only Jhr (at + 40) date second third puts_date (at + 12) 44 (omega arith) (omega arith)))
      (put_only Jhr (at + 52) bits third fourth puts_bits (at + 12) 44 (omega arith) (omega arith))

  -- what the header is then
  pub reading_header : ChangesHeader first fourth at (header_with_reading reading)
  reading_header files room =
      let size = (times_only files room).here.size in
      let later_size = (date_only files room).here.size in
      let one = header_put_there at 12 times first second puts_times times_inside files room ∙ times_are (header_in (changed first files) at) in
      let two = header_put_there at 40 date second third puts_date date_inside files (omega arith) ∙ date_is (header_in (changed second files) at) in
      let three = header_put_there at 52 bits third fourth puts_bits bits_inside files (omega arith) ∙ bits_are (header_in (changed third files) at) in
      three ∙ ap (header_with_attribute reading.attribute) two ∙ ap (λ (h : MessageHeader). record h { received = reading.received; attribute = reading.attribute }) one

  -- what the change makes then
  pub reading_makes : ChangesHead first fourth at (head_with_reading reading)
  reading_makes from to text place message makes there is =
      subst (λ (l : Loaded). Makes fourth from l text) (set_once from to text place message makes there is) (all_make from to text place message makes there is)
