-- The texts that are left, as they are copied into .NDT one after another.
use Rattle.std.proofs.Common.{◌≡◌, ◌≢◌, inl, inr, ℕ, ◌+◌, ◌-◌, ◌≤◌, ◌<◌, List, [], ◌∷◌, ◌++◌, Some, length, min, take, drop, get_or, set, replicate, All, refl, sym, ◌∙◌, ap, subst, arith, append_assoc, length-append, length-take}
use Rattle.std.specs.Prelude.{sum}
use Rattle.std.specs.Option.{ForSome}
use Rattle.std.proofs.lemmas.List.{append-nil, drop_more, get_or-append_right, get_or-drop, get_or-take, get_or_read, length-replicate, length-set, places, replicate_more, same_lists, set_at, take-take}
use Rattle.std.proofs.lemmas.List.Elements.{All-get_or, All-set, All-weaker}
use Rattle.std.proofs.lemmas.List.Sums.{sum_by-take-le, sum_by_more}
use Rattle.jb_limits.specs.declared.limits.TheConstants.{SHADOW_CEILING, TEXTS_CEILING}
use Rattle.jb_disk.specs.Device.{Device, Turns}
use Rattle.jb_disk.specs.Files.{Files}
use Rattle.jb_disk.specs.declared.file.FileId.TheVariants.{Jdt, Ndt}
use Rattle.jb_image.proofs.FileBytes.{length-bytes_at}
use Rattle.jb_image.specs.Places.{bytes_at}
use Rattle.jb_state.specs.Sound.{IsSlotWithin, IsTextWithin}
use Rattle.jb_state.specs.declared.loaded.Loaded.{Loaded}
use Rattle.jb_state.specs.declared.loaded.LoadedMessage.{LoadedMessage}
use Rattle.jb_state.specs.declared.loaded.LoadedSlot.{LoadedSlot}
use Rattle.jb_state.specs.declared.loaded.LoadedSlot.TheVariants.{Empty, Live}
use Rattle.jb_pack.specs.Advance.{CopiesFirst}
use Rattle.jb_pack.specs.Laws.{CopiesStay}
use Rattle.jb_pack.specs.Runs.{IsJoined, IsRun}
use Rattle.jb_pack.specs.Shadow.{HasCopies, IsBelowCeiling, IsCopyIn, left_of, lefts, not_copied}
use Rattle.jb_pack.specs.Touching.{Appends, TouchesShadow}
use Rattle.jb_pack.specs.declared.copied.CopiedText.{CopiedText}
use Rattle.jb_pack.specs.declared.run.Run.{Run}
use Rattle.jb_pack.proofs.ShadowLemmas.{left-copied, left-whole, length-lefts, lefts-at, lefts-set}
use Rattle.jb_pack.proofs.TouchLemmas.{told_before, touches-none, touches-then}

-- bytes behind a file change none of its parts
bytes-before : (at len : ℕ) (file more : List ℕ) → at + len ≤ length file → bytes_at at len (file ++ more) ≡ bytes_at at len file
bytes-before at len file more inside = same_lists _ _ (grind (arith, places)) (λ k d low. grind (arith, places))

-- the bytes behind a file
bytes-behind : (file more : List ℕ) (len : ℕ) → length more ≡ len → bytes_at (length file) len (file ++ more) ≡ more
bytes-behind file more len size = same_lists _ _ (grind (arith, places)) (λ k d low. grind (arith, places))

-- a copy stays one where .NDT grows
copy_longer : (texts shadow more : List ℕ) (copied : CopiedText) → IsCopyIn texts shadow copied → IsCopyIn texts (shadow ++ more) copied
copy_longer texts shadow more copied is =
    let there = is.there in
    record {
      inside = is.inside;
      there = omega (arith, length-append shadow more);
      same = bytes-before copied.at copied.len shadow more is.there ∙ is.same;
    }

-- and what is put behind it is a copy
copy_behind : (texts shadow : List ℕ) (from len at : ℕ) → at ≡ length shadow → from + len ≤ length texts
    → IsCopyIn texts (shadow ++ bytes_at from len texts) (record { from = from; len = len; at = at })
copy_behind texts shadow from len at at_is inside =
    let size = length-bytes_at from len texts inside in
    record {
      inside = inside;
      there = omega (arith, length-append shadow (bytes_at from len texts));
      same = ap (λ n. bytes_at n len (shadow ++ bytes_at from len texts)) at_is ∙ bytes-behind shadow (bytes_at from len texts) len size;
    }

-- one copy more
copies_more : (texts shadow : List ℕ) (copies : List CopiedText) (k from len at : ℕ) → All (IsCopyIn texts shadow) copies → at ≡ length shadow → from + len ≤ length texts
    → All (IsCopyIn texts (shadow ++ bytes_at from len texts)) (set copies k (record { from = from; len = len; at = at }))
copies_more texts shadow copies k from len at each at_is inside =
    All-set (IsCopyIn texts (shadow ++ bytes_at from len texts)) copies k (record { from = from; len = len; at = at })
    (copy_behind texts shadow from len at at_is inside)
    (All-weaker (IsCopyIn texts shadow) (IsCopyIn texts (shadow ++ bytes_at from len texts)) (λ copied is. copy_longer texts shadow (bytes_at from len texts) copied is) copies each)

-- a copy stays one where .JDT keeps its bytes
stay_in : (texts more shadow : List ℕ) (copied : CopiedText) → take (length texts) more ≡ texts → IsCopyIn texts shadow copied → IsCopyIn more shadow copied
stay_in texts more shadow copied kept is =
    let inside = is.inside in
    let longer : length texts ≤ length more = omega (arith, ap length kept, length-take (length texts) more) in
    record {
      inside = omega arith;
      there = is.there;
      same = is.same ∙ ap (bytes_at copied.from copied.len) (sym kept) ∙ bytes-kept copied.from copied.len (length texts) more inside;
    }
  where
    bytes-kept : (at len n : ℕ) (file : List ℕ) → at + len ≤ n → bytes_at at len (take n file) ≡ bytes_at at len file
    bytes-kept at len n file inside = same_lists _ _ (grind (arith, places)) (λ k d low. grind (arith, places))

-- and so do all
pub stays_copied : CopiesStay
stays_copied shadow before after has same kept = record {
  size = ap length same ∙ has.size;
  each = subst (λ (l : List ℕ). All (IsCopyIn (after Jdt) l) shadow.texts) (sym same)
      (All-weaker (IsCopyIn (before Jdt) (before Ndt)) (IsCopyIn (after Jdt) (before Ndt)) (λ copied is. stay_in (before Jdt) (after Jdt) (before Ndt) copied kept is) shadow.texts has.each);
}

-- nothing is left of the first so many
abbrev pub done_first : ℕ → List ℕ → List ℕ
done_first k numbers = replicate k 0 ++ drop k numbers

-- at the next place it is as it was
pub next_left : (k : ℕ) (numbers : List ℕ) → get_or (done_first k numbers) k 0 ≡ get_or numbers k 0
next_left k numbers =
    let same : k + (k - k) ≡ k = omega arith in
    get_or-append_right (replicate k 0) (drop k numbers) k k 0 (length-replicate k 0) (omega arith)
    ∙ get_or-drop k numbers (k - k) 0 ∙ ap (λ n. get_or numbers n 0) same

-- where nothing is left of the next, nothing is left of one more
pub done_more : (k : ℕ) (numbers : List ℕ) → k < length numbers → get_or numbers k 0 ≡ 0 → done_first (k + 1) numbers ≡ done_first k numbers
done_more k numbers low none =
    ap (λ (l : List ℕ). l ++ drop (k + 1) numbers) (sym (replicate_more k 0))
    ∙ append_assoc (replicate k 0) (0 ∷ []) (drop (k + 1) numbers)
    ∙ ap (λ (l : List ℕ). replicate k 0 ++ l) (ap (λ n. n ∷ drop (k + 1) numbers) (sym none) ∙ sym (drop_more numbers k 0 low))

-- and where it is copied, too
pub done_set : (k : ℕ) (numbers : List ℕ) → k < length numbers → set (done_first k numbers) k 0 ≡ done_first (k + 1) numbers
done_set k numbers low =
    ap (λ (l : List ℕ). set (replicate k 0 ++ l) k 0) (drop_more numbers k 0 low)
    ∙ set_at (replicate k 0) (get_or numbers k 0) (drop (k + 1) numbers) 0 k (length-replicate k 0)
    ∙ sym (append_assoc (replicate k 0) (0 ∷ []) (drop (k + 1) numbers))
    ∙ ap (λ (l : List ℕ). l ++ drop (k + 1) numbers) (replicate_more k 0)

-- fewer are no more together
pub sum_fewer : (a b : ℕ) (numbers : List ℕ) → a ≤ b → sum (take a numbers) ≤ sum (take b numbers)
sum_fewer a b numbers fewer =
    omega (arith, sum_by-take-le (λ (n : ℕ). n) (take b numbers) a, ap sum (take-take a b numbers fewer))

-- a slot, as it is read among the first so many
pub slot_there : (slots as_read : List LoadedSlot) (n k : ℕ) (slot : LoadedSlot) → as_read ≡ slots → k < length (take n as_read) → slot ≡ get_or (take n as_read) k slot
    → get_or slots k Empty ≡ slot
slot_there slots as_read n k slot same inside is =
    let low : k < n = omega (arith, length-take n as_read) in
    ap (λ (l : List LoadedSlot). get_or l k Empty) (sym same) ∙ sym (get_or-take n as_read k Empty low) ∙ sym (get_or_read (take n as_read) k slot inside is Empty)

-- the live message of a slot among the first so many, of whose text some is left
pub record IsLeft (loaded : Loaded) (copies : List CopiedText) (k count : ℕ) (message : LoadedMessage) : Type 0 where
  pub low : k < count
  pub live : get_or loaded.slots k Empty ≡ Live message
  pub all : left_of (get_or copies k not_copied) (Live message) ≡ message.text_len
  pub some : message.text_len ≡ 0 → ⊥
  pub within : IsTextWithin loaded.texts_len message.text_at message.text_len

-- as it is met
pub is_left : (loaded : Loaded) (copies : List CopiedText) (as_read : List LoadedSlot) (k count : ℕ) (slot : LoadedSlot) (message : LoadedMessage) (n : ℕ)
    → as_read ≡ loaded.slots → All (IsSlotWithin loaded.headers_len loaded.texts_len) loaded.slots → k < length (take count as_read)
    → slot ≡ get_or (take count as_read) k slot → slot ≡ Live message → n ≡ left_of (get_or copies k not_copied) slot → (n ≡ 0 → ⊥) → IsLeft loaded copies k count message
is_left loaded copies as_read k count slot message n same within inside is live n_is some =
    let there : get_or loaded.slots k Empty ≡ Live message = slot_there loaded.slots as_read count k slot same inside is ∙ live in
    let all : left_of (get_or copies k not_copied) (Live message) ≡ message.text_len = left-whole (get_or copies k not_copied) slot message n live n_is some in
    let low : k < length loaded.slots = omega (arith, length-take count as_read, ap length same) in
    let here : IsSlotWithin loaded.headers_len loaded.texts_len (Live message) =
    subst (IsSlotWithin loaded.headers_len loaded.texts_len) there (All-get_or (IsSlotWithin loaded.headers_len loaded.texts_len) loaded.slots k Empty low within) in
    record {
      low = omega (arith, length-take count as_read);
      live = there;
      all = all;
      some = λ none. some (n_is ∙ ap (left_of (get_or copies k not_copied)) live ∙ all ∙ none);
      within = here.text;
    }

-- its text lies within .JDT
pub left_inside : (loaded : Loaded) (copies : List CopiedText) (k count : ℕ) (message : LoadedMessage) → IsLeft loaded copies k count message
    → message.text_at + message.text_len ≤ loaded.texts_len
left_inside loaded copies k count message is = elim is.within.placed [ inl none ↦ absurd (is.some none) | inr there ↦ there.0 ]

-- .NDT, with a part of .JDT that is to follow
abbrev pub with_run : Run → Files → List ℕ
with_run run files = files Ndt ++ bytes_at run.at run.len (files Jdt)

-- the copies stand in .NDT once that part does
pub record HasPending (loaded : Loaded) (copies : List CopiedText) (run : Run) (end : ℕ) (files : Files) : Type 0 where
  pub sized : length (files Ndt) ≡ end
  pub long : length (files Jdt) ≡ loaded.texts_len
  pub each : All (IsCopyIn (files Jdt) (with_run run files)) copies

module _ (loaded : Loaded) (initial : Device) (start : List CopiedText) (len : ℕ) where
  -- what was left at first
  abbrev pub first : List ℕ
  first = lefts start loaded.slots

  -- what was left of the first so many slots is copied, but for a part that is to follow
  pub record IsCopying (now : Device) (copies : List CopiedText) (run : Run) (end next k : ℕ) : Type 0 where
    pub left : lefts copies loaded.slots ≡ done_first k first
    pub size : length copies ≡ length loaded.slots
    pub next_is : next ≡ len + sum (take k first)
    pub end_is : end + run.len ≡ next
    pub begun : len ≤ end
    pub run_is : IsRun (min loaded.texts_len TEXTS_CEILING) run
    pub below : All IsBelowCeiling copies
    pub has : ForSome now.contents (HasPending loaded copies run end)
    pub touches : TouchesShadow initial now
    pub counted : now.faults ≡ initial.faults

  -- a part that has no byte
  abbrev pub no_run : Run
  no_run = record { at = 0; len = 0 }

  -- at first nothing is
  pub copying_none : ForSome initial.contents (λ files. length (files Jdt) ≡ loaded.texts_len) → ForSome initial.contents (HasCopies (record { texts = start; len = len }))
      → length start ≡ length loaded.slots → All IsBelowCeiling start → IsCopying initial start no_run len len 0
  copying_none told has size below = record {
    left = refl;
    size = size;
    next_is = omega arith;
    end_is = omega arith;
    begun = omega arith;
    run_is = record { inside = omega arith; short = omega arith };
    below = below;
    has = λ files there. record {
      sized = (has files there).size;
      long = told files there;
      each = subst (λ (l : List ℕ). All (IsCopyIn (files Jdt) l) start) (sym (append-nil (files Ndt))) (has files there).each;
    };
    touches = touches-none initial;
    counted = refl;
  }

  -- nothing is left of the next slot
  pub copying_on : (now : Device) (copies : List CopiedText) (run : Run) (end next k : ℕ) → k < length loaded.slots
      → left_of (get_or copies k not_copied) (get_or loaded.slots k Empty) ≡ 0 → IsCopying now copies run end next k → IsCopying now copies run end next (k + 1)
  copying_on now copies run end next k low none copying =
      let within : k < length first = omega (arith, length-lefts start loaded.slots) in
      let here : get_or first k 0 ≡ 0 =
      sym (next_left k first) ∙ ap (λ (l : List ℕ). get_or l k 0) (sym copying.left) ∙ lefts-at copies loaded.slots k low ∙ none in
      let next_is = copying.next_is in
      record {
        left = copying.left ∙ sym (done_more k first within here);
        size = copying.size;
        next_is = omega (arith, sum_by_more (λ (n : ℕ). n) first k 0 within);
        end_is = copying.end_is;
        begun = copying.begun;
        run_is = copying.run_is;
        below = copying.below;
        has = copying.has;
        touches = copying.touches;
        counted = copying.counted;
      }

  -- the part that is to follow fits
  pub run_room : (now : Device) (copies : List CopiedText) (run : Run) (end next k count : ℕ) → k ≤ count → len + sum (take count first) ≤ SHADOW_CEILING
      → IsCopying now copies run end next k → end + run.len ≤ SHADOW_CEILING
  run_room now copies run end next k count few room copying =
      let end_is = copying.end_is in
      let next_is = copying.next_is in
      omega (arith, sum_fewer k count first few)

  -- it lies within .JDT
  pub run_within : (now : Device) (copies : List CopiedText) (run : Run) (end next k : ℕ) → IsCopying now copies run end next k
      → ForSome now.contents (λ files. run.at + run.len ≤ length (files Jdt))
  run_within now copies run end next k copying = λ files there.
      let long = (copying.has files there).long in
      let inside = copying.run_is.inside in
      omega arith

  -- the copy of a message's text, at the end of what is copied
  abbrev pub copy_at : ℕ → LoadedMessage → CopiedText
  copy_at at message = record { from = message.text_at; len = message.text_len; at = at }

  module _ (now : Device) (copies : List CopiedText) (run : Run) (end next k count : ℕ) (message : LoadedMessage)
      (low : k < count) (few : count ≤ length loaded.slots) (live : get_or loaded.slots k Empty ≡ Live message)
      (some : left_of (get_or copies k not_copied) (Live message) ≡ message.text_len) (room : len + sum (take count first) ≤ SHADOW_CEILING)
      (copying : IsCopying now copies run end next k) where
    -- so many bytes of it are left
    here : get_or first k 0 ≡ message.text_len
    here =
        sym (next_left k first) ∙ ap (λ (l : List ℕ). get_or l k 0) (sym copying.left) ∙ lefts-at copies loaded.slots k (omega arith)
        ∙ ap (left_of (get_or copies k not_copied)) live ∙ some

    -- and are not, once it is copied
    left_then : lefts (set copies k (copy_at next message)) loaded.slots ≡ done_first (k + 1) first
    left_then =
        let size = copying.size in
        lefts-set copies loaded.slots k (copy_at next message) (omega arith) (omega arith)
        ∙ ap (set (lefts copies loaded.slots) k) (ap (left_of (copy_at next message)) live ∙ left-copied next message)
        ∙ ap (λ (l : List ℕ). set l k 0) copying.left
        ∙ done_set k first (omega (arith, length-lefts start loaded.slots))

    -- how many bytes .NDT has with it
    pub next_then : next + message.text_len ≡ len + sum (take (k + 1) first)
    next_then =
        let next_is = copying.next_is in
        omega (arith, sum_by_more (λ (n : ℕ). n) first k 0 (omega (arith, length-lefts start loaded.slots)), here)

    -- they fit
    pub room_then : next + message.text_len ≤ SHADOW_CEILING
    room_then = omega (arith, next_then, sum_fewer (k + 1) count first (omega arith))

    -- the copy ends below the ceiling
    pub below_then : All IsBelowCeiling (set copies k (copy_at next message))
    below_then = All-set IsBelowCeiling copies k (copy_at next message) room_then copying.below

    -- with the text behind it the copies stand in .NDT
    pending_then : (files : Files) → now.contents ≡ Some files → message.text_at + message.text_len ≤ loaded.texts_len
        → All (IsCopyIn (files Jdt) (with_run run files ++ bytes_at message.text_at message.text_len (files Jdt))) (set copies k (copy_at next message))
    pending_then files there inside =
        let has = copying.has files there in
        let long = has.long in
        let sized = has.sized in
        let end_is = copying.end_is in
        let within = copying.run_is.inside in
        copies_more (files Jdt) (with_run run files) copies k message.text_at message.text_len next has.each
        (omega (arith, length-append (files Ndt) (bytes_at run.at run.len (files Jdt)), length-bytes_at run.at run.len (files Jdt) (omega arith)))
        (omega arith)

    -- the text stands right behind the part, which grows
    pub copying_joined : (more : Run) → IsJoined run (record { at = message.text_at; len = message.text_len }) more → IsRun (min loaded.texts_len TEXTS_CEILING) more
        → message.text_at + message.text_len ≤ loaded.texts_len
        → IsCopying now (set copies k (copy_at next message)) more end (next + message.text_len) (k + 1)
    copying_joined more joined more_is inside =
        let end_is = copying.end_is in
        let grows = joined.size in
        record {
          left = left_then;
          size = length-set copies k (copy_at next message) ∙ copying.size;
          next_is = next_then;
          end_is = omega arith;
          begun = copying.begun;
          run_is = more_is;
          below = below_then;
          has = λ files there. record {
            sized = (copying.has files there).sized;
            long = (copying.has files there).long;
            each = subst (λ (l : List ℕ). All (IsCopyIn (files Jdt) l) (set copies k (copy_at next message)))
                (append_assoc (files Ndt) (bytes_at run.at run.len (files Jdt)) (bytes_at message.text_at message.text_len (files Jdt))
                ∙ ap (λ (l : List ℕ). files Ndt ++ l) (sym (joined.bytes (files Jdt))))
                (pending_then files there inside);
          };
          touches = copying.touches;
          counted = copying.counted;
        }

    -- it stands elsewhere, and begins a part of its own once that before it is copied
    pub copying_next : (then : Device) (end' : ℕ) → Turns (Appends run) now.contents then.contents → end' ≡ end + run.len → TouchesShadow now then → then.faults ≡ now.faults
        → IsRun (min loaded.texts_len TEXTS_CEILING) (record { at = message.text_at; len = message.text_len })
        → IsCopying then (set copies k (copy_at next message)) (record { at = message.text_at; len = message.text_len }) end' (next + message.text_len) (k + 1)
    copying_next then end' appends end_then touches same run_is =
        let end_is = copying.end_is in
        let inside = run_is.inside in
        let begun = copying.begun in
        record {
          left = left_then;
          size = length-set copies k (copy_at next message) ∙ copying.size;
          next_is = next_then;
          end_is = omega arith;
          begun = omega arith;
          run_is = run_is;
          below = below_then;
          has = λ files there.
              let back = told_before (Appends run) now.contents then.contents files appends there in
              let was = back.0 in
              let step = back.2 in
              let before = copying.has was back.1 in
              let sized = before.sized in
              let within = copying.run_is.inside in
              let long = before.long in
              let texts : files Jdt ≡ was Jdt = step.others Jdt texts_apart in
              record {
                sized = omega (arith, ap length step.shadow, length-append (was Ndt) (bytes_at run.at run.len (was Jdt)), length-bytes_at run.at run.len (was Jdt) (omega arith));
                long = ap length texts ∙ before.long;
                each = subst (λ (l : List ℕ). All (IsCopyIn (files Jdt) (l ++ bytes_at message.text_at message.text_len (files Jdt))) (set copies k (copy_at next message)))
                    (sym step.shadow)
                    (subst (λ (l : List ℕ). All (IsCopyIn l (with_run run was ++ bytes_at message.text_at message.text_len l)) (set copies k (copy_at next message)))
                    (sym texts) (pending_then was back.1 (omega arith)));
              };
          touches = touches-then initial now then copying.touches touches;
          counted = same ∙ copying.counted;
        }
      where
        texts_apart : Jdt ≢ Ndt
        texts_apart same = cc

  -- once the last part is copied the copies stand in .NDT
  pub copied_all : (now then : Device) (copies : List CopiedText) (run : Run) (end next end' k : ℕ) → IsCopying now copies run end next k
      → Turns (Appends run) now.contents then.contents → end' ≡ end + run.len → ForSome then.contents (HasCopies (record { texts = copies; len = end' }))
  copied_all now then copies run end next end' k copying appends end_then = λ files there.
      let back = told_before (Appends run) now.contents then.contents files appends there in
      let was = back.0 in
      let step = back.2 in
      let before = copying.has was back.1 in
      let sized = before.sized in
      let within = copying.run_is.inside in
      let long = before.long in
      let texts : files Jdt ≡ was Jdt = step.others Jdt texts_apart in
      record {
        size = omega (arith, ap length step.shadow, length-append (was Ndt) (bytes_at run.at run.len (was Jdt)), length-bytes_at run.at run.len (was Jdt) (omega arith));
        each = subst (λ (l : List ℕ). All (IsCopyIn (files Jdt) l) copies) (sym step.shadow)
            (subst (λ (l : List ℕ). All (IsCopyIn l (with_run run was)) copies) (sym texts) before.each);
      }
    where
      texts_apart : Jdt ≢ Ndt
      texts_apart same = cc

  -- so many slots are gone through then
  pub copied_first : (now : Device) (copies : List CopiedText) (run : Run) (end next end' k : ℕ) → k ≤ length loaded.slots → IsCopying now copies run end next k → end' ≡ end + run.len
      → CopiesFirst k loaded.slots (record { texts = start; len = len }) (record { texts = copies; len = end' })
  copied_first now copies run end next end' k few copying end_then =
      let end_is = copying.end_is in
      let next_is = copying.next_is in
      record { within = few; left = copying.left; len = omega arith }
