-- What each small change makes of the area that a change makes.
use Rattle.std.proofs.Common.{◌≡◌, ℕ, ◌+◌, ◌<◌, ◌≤◌, List, ◌++◌, length, ap, ◌∙◌, sym, refl, subst, arith}
use Rattle.std.specs.Prelude.{◌^◌, ◌%◌, bit_and, bit_or}
use Rattle.std.proofs.lemmas.Nat.{and_or_self}
use Rattle.jb_base.specs.declared.attribute.TheConstants.{DELETED}
use Rattle.jb_bytes.specs.Number.{number_bytes}
use Rattle.jb_bytes.proofs.Numbers.{little_endian-back}
use Rattle.jb_disk.specs.RedoView.{RedoView}
use Rattle.jb_disk.specs.declared.file.FileId.TheVariants.{Jhr}
use Rattle.jb_disk.specs.Files.{Files, file_number, overwritten}
use Rattle.jb_disk.specs.FileLaws.{with_file-here}
use Rattle.jb_state.specs.Loaded.{IsMessageAt, with_head_at, with_killed_at}
use Rattle.jb_state.specs.declared.loaded.Loaded.{Loaded}
use Rattle.jb_state.specs.declared.loaded.LoadedMessage.{LoadedMessage}
use Rattle.jb_state.specs.declared.loaded.LoadedSlot.TheVariants.{Live}
use Rattle.jb_state.specs.declared.message.Head.{Head}
use Rattle.jb_record.specs.declared.message.MessageHeader.{MessageHeader}
use Rattle.jb_record.specs.Message.{message_header_of}
use Rattle.jb_image.specs.Places.{bytes_at, header_in}
use Rattle.jb_image.specs.Stands.{Loads, head_of, IsDeleted}
use Rattle.jb_change.specs.Changing.{ChangesHead, ChangesHeader, ChangesMessage, WritesOnly, Puts, head_with_links, header_with_attribute, header_with_links}
use Rattle.jb_change.specs.Makes.{Makes}
use Rattle.jb_redo.specs.Changes.{changed}
use Rattle.jb_change.proofs.HeaderLemmas.{with_bytes, header_put}
use Rattle.jb_change.proofs.LoadsLemmas.{slot_there, header_room, loads_head, loads_killed}
use Rattle.jb_change.proofs.PieceLemmas.{put_done, put_only, put_makes}

-- whole numbers that are put into a live message's header, behind its first twelve bytes and before the places of its text
pub record IsInHeader (at o : ℕ) (bytes : List ℕ) : Type 0 where
  pub low : 12 ≤ o
  pub high : o + length bytes ≤ 60
  pub o_whole : o % 4 ≡ 0
  pub whole : length bytes % 4 ≡ 0
  pub fits : at + 76 < 2 ^ 32

module _ (at o : ℕ) (bytes : List ℕ) (old new : RedoView) (puts : Puts Jhr (at + o) bytes old new) (inside : IsInHeader at o bytes) where
  -- the same, where the message stands
  puts_there : (message : LoadedMessage) → message.header_at ≡ at → Puts Jhr (message.header_at + o) bytes old new
  puts_there message is = subst (λ (n : ℕ). Puts Jhr (n + o) bytes old new) (sym is) puts

  -- they lie within the file
  within_file : (to : Loaded) (place : ℕ) (message : LoadedMessage) → IsMessageAt to place message → (files : Files) → Loads to files → message.header_at + o + length bytes ≤ length (files Jhr)
  within_file to place message there files held =
      let high = inside.high in
      let room = header_room files to place message held there o bytes inside.low inside.high inside.o_whole inside.whole in
      omega arith

  -- the header then has those numbers
  pub header_put_there : ChangesHeader old new at (with_bytes o bytes)
  header_put_there files room =
      let high = inside.high in
      ap (λ (f : Files). header_in f at) (put_done Jhr (at + o) bytes old new puts files)
      ∙ ap (λ (l : List ℕ). message_header_of (bytes_at at 76 l)) (with_file-here Jhr (overwritten (at + o) bytes (changed old files Jhr)) (changed old files))
      ∙ header_put at o bytes (changed old files Jhr) room inside.low (omega arith) inside.o_whole inside.whole

  -- no byte outside the header is another
  pub header_only : WritesOnly old new Jhr at 76
  header_only =
      let high = inside.high in
      put_only Jhr (at + o) bytes old new puts at 76 (omega arith) (omega arith)

  module _ (from to : Loaded) (text : List ℕ) (place : ℕ) (message : LoadedMessage) (makes : Makes old from to text) (there : IsMessageAt to place message) (is : message.header_at ≡ at) where
    -- the place fits
    fits_there : message.header_at + o < 2 ^ 32
    fits_there =
        let fits = inside.fits in
        let high = inside.high in
        omega arith

    -- it is short
    short_there : length bytes < 2 ^ 32
    short_there =
        let high = inside.high in
        omega arith

    -- the change then makes the area with the fields that the header has then
    pub head_makes : (head : Head) → ((header : MessageHeader) → message.head ≡ head_of header → head ≡ head_of (with_bytes o bytes header))
        → (bit_and message.head.attribute DELETED ≡ 0 → bit_and head.attribute DELETED ≡ 0) → Makes new from (with_head_at place head message to) text
    head_makes head becomes undeleted =
        put_makes Jhr (message.header_at + o) bytes old new (puts_there message is) from to (with_head_at place head message to) text makes
        (omega arith) (λ same. absurd (omega (arith, ap file_number same))) fits_there short_there (within_file to place message there)
        (λ files held.
        let stood = (slot_there files to place (Live message) held there).2 in
        loads_head files to place message held there o bytes inside.low inside.high inside.o_whole inside.whole head
        (becomes (header_in files message.header_at) stood.head)
        (undeleted (subst (λ (h : Head). bit_and h.attribute DELETED ≡ 0) (sym stood.head) stood.live.live)))

    -- and the area with the message killed, where the header says so
    pub killed_makes : ((header : MessageHeader) → IsDeleted (with_bytes o bytes header)) → Makes new from (with_killed_at place message to) text
    killed_makes deleted =
        put_makes Jhr (message.header_at + o) bytes old new (puts_there message is) from to (with_killed_at place message to) text makes
        (omega arith) (λ same. absurd (omega (arith, ap file_number same))) fits_there short_there (within_file to place message there)
        (λ files held. loads_killed files to place message held there o bytes inside.low inside.high inside.o_whole inside.whole (deleted (header_in files message.header_at)))

-- the bytes of three links
abbrev links_bytes : ℕ → ℕ → ℕ → List ℕ
links_bytes reply_to first next = number_bytes 4 reply_to ++ number_bytes 4 first ++ number_bytes 4 next

-- links that are put into a header
module _ (at reply_to first next : ℕ) (old new : RedoView) (fits : at + 76 < 2 ^ 32) (one : reply_to < 2 ^ 32) (two : first < 2 ^ 32) (three : next < 2 ^ 32)
    (puts : Puts Jhr (at + 24) (number_bytes 4 reply_to ++ number_bytes 4 first ++ number_bytes 4 next) old new) where
  -- where they stand
  links_inside : IsInHeader at 24 (links_bytes reply_to first next)
  links_inside = record { low = omega arith; high = omega arith; o_whole = refl; whole = refl; fits = fits }

  -- the header with them
  links_are : (header : MessageHeader) → with_bytes 24 (links_bytes reply_to first next) header ≡ header_with_links reply_to first next header
  links_are header =
      let first_is = little_endian-back 4 reply_to one in
      let second_is = little_endian-back 4 first two in
      let third_is = little_endian-back 4 next three in
      λ i. record header { reply_to = first_is i; reply_first = second_is i; reply_next = third_is i }

  -- what the header is then
  pub links_header : ChangesHeader old new at (header_with_links reply_to first next)
  links_header files room = header_put_there at 24 (links_bytes reply_to first next) old new puts links_inside files room ∙ links_are (header_in (changed old files) at)

  -- no byte outside them is another
  pub links_only : WritesOnly old new Jhr (at + 24) 12
  links_only = put_only Jhr (at + 24) (links_bytes reply_to first next) old new puts (at + 24) 12 (omega arith) (omega arith)

  -- what the change makes then
  pub links_make : ChangesHead old new at (head_with_links reply_to first next)
  links_make from to text place message makes there is =
      head_makes at 24 (links_bytes reply_to first next) old new puts links_inside from to text place message makes there is (head_with_links reply_to first next message.head)
      (λ header head_is. ap (head_with_links reply_to first next) head_is ∙ ap head_of (sym (links_are header))) (λ undeleted. undeleted)

-- where one number of a header stands
pub one_inside : (at o value : ℕ) → 12 ≤ o → o + 4 ≤ 60 → o % 4 ≡ 0 → at + 76 < 2 ^ 32 → IsInHeader at o (number_bytes 4 value)
one_inside at o value low high o_whole fits = record { low = low; high = high; o_whole = o_whole; whole = refl; fits = fits }

-- a kill that is put into a header
module _ (at attribute : ℕ) (old new : RedoView) (fits : at + 76 < 2 ^ 32) (small : bit_or attribute DELETED < 2 ^ 32)
    (puts : Puts Jhr (at + 52) (number_bytes 4 (bit_or attribute DELETED)) old new) where
  -- what is written
  abbrev kill_bytes : List ℕ
  kill_bytes = number_bytes 4 (bit_or attribute DELETED)

  -- where it stands
  kill_inside : IsInHeader at 52 kill_bytes
  kill_inside = one_inside at 52 (bit_or attribute DELETED) (omega arith) (omega arith) refl fits

  -- the header with it
  kill_is : (header : MessageHeader) → with_bytes 52 kill_bytes header ≡ header_with_attribute (bit_or attribute DELETED) header
  kill_is header =
      let is = little_endian-back 4 (bit_or attribute DELETED) small in
      λ i. record header { attribute = is i }

  -- what the header is then
  pub kill_header : ChangesHeader old new at (header_with_attribute (bit_or attribute DELETED))
  kill_header files room = header_put_there at 52 kill_bytes old new puts kill_inside files room ∙ kill_is (header_in (changed old files) at)

  -- no byte outside its attribute is another
  pub kill_only : WritesOnly old new Jhr (at + 52) 4
  kill_only = put_only Jhr (at + 52) kill_bytes old new puts (at + 52) 4 (omega arith) (omega arith)

  -- what the change makes then
  pub kill_makes : ChangesMessage old new at with_killed_at
  kill_makes from to text place message makes there is =
      killed_makes at 52 kill_bytes old new puts kill_inside from to text place message makes there is
      (λ header. subst IsDeleted (sym (kill_is header)) (λ none. absurd (omega (arith, and_or_self DELETED attribute, none))))
