-- The texts of an area as they are put as copies of parts of .NDT, part by part.
use Rattle.std.proofs.Common.{◌≡◌, inl, inr, ℕ, zero, suc, ◌+◌, ◌≤◌, cond, List, [], ◌∷◌, ◌++◌, length, take, drop, get_or, All, refl, sym, ◌∙◌, ap, subst, arith, append_assoc, length-append}
use Rattle.std.specs.Prelude.{◌<◌, ◌^◌}
use Rattle.std.proofs.lemmas.List.{append-nil}
use Rattle.std.proofs.lemmas.List.Elements.{All-append, All-cons, All-head, All-nil, All-tail}
use Rattle.std.proofs.lemmas.List.Sums.{sum_by-cons, sum_by_push}
use Rattle.jb_limits.specs.declared.limits.TheConstants.{SHADOW_CEILING}
use Rattle.jb_redo.specs.Changes.{KeepsRoom}
use Rattle.jb_disk.specs.RedoView.{RedoView}
use Rattle.jb_disk.specs.Files.{Files}
use Rattle.jb_disk.specs.declared.file.FileId.TheVariants.{Jdt, Ndt}
use Rattle.jb_disk.specs.declared.piece.Piece.{Piece}
use Rattle.jb_disk.specs.declared.piece.Piece.TheVariants.{Copy}
use Rattle.jb_image.specs.Places.{bytes_at}
use Rattle.jb_state.specs.Sound.{IsMessageWithin, IsSlotWithin}
use Rattle.jb_state.specs.State.{text_of}
use Rattle.jb_state.specs.declared.loaded.Loaded.{Loaded}
use Rattle.jb_state.specs.declared.loaded.LoadedMessage.{LoadedMessage}
use Rattle.jb_state.specs.declared.loaded.LoadedSlot.{LoadedSlot}
use Rattle.jb_state.specs.declared.loaded.LoadedSlot.TheVariants.{Empty, Killed, Live}
use Rattle.jb_pack.specs.Finish.{PutsCopies}
use Rattle.jb_state.specs.Packed.{is_live_slot, live_slots, slot_text_size, texts_in, texts_size}
use Rattle.jb_pack.specs.Runs.{IsJoined, IsRunPlaced, IsRun, bytes_in, copies_of, runs_size}
use Rattle.jb_pack.specs.Shadow.{IsBelowCeiling, IsCopyIn, left_of, not_copied}
use Rattle.jb_pack.specs.declared.copied.CopiedText.{CopiedText}
use Rattle.jb_pack.specs.declared.run.Run.{Run}
use Rattle.jb_pack.proofs.FinishLemmas.{copies-append, in-append}
use Rattle.jb_pack.proofs.ShadowLemmas.{left-zero_cases}
use Rattle.jb_pack.proofs.SlotLemmas.{keeps_then}

-- what no copy stands for is one of no bytes
pub copy_in : (texts shadow : List ℕ) (copies : List CopiedText) (k : ℕ) → All (IsCopyIn texts shadow) copies → IsCopyIn texts shadow (get_or copies k not_copied)
copy_in texts shadow [] k each = record { inside = omega arith; there = omega arith; same = refl }
copy_in texts shadow (copied ∷ copies) zero each = All-head (IsCopyIn texts shadow) copied copies each
copy_in texts shadow (copied ∷ copies) (suc k) each = copy_in texts shadow copies k (All-tail (IsCopyIn texts shadow) copied copies each)

-- it ends below the ceiling
pub copy_below : (copies : List CopiedText) (k : ℕ) → All IsBelowCeiling copies → IsBelowCeiling (get_or copies k not_copied)
copy_below [] k each = omega arith
copy_below (copied ∷ copies) zero each = All-head IsBelowCeiling copied copies each
copy_below (copied ∷ copies) (suc k) each = copy_below copies k (All-tail IsBelowCeiling copied copies each)

-- the text of a message, of which nothing is left, as its copy stands in .NDT
pub record IsTextRun (copies : List CopiedText) (message : LoadedMessage) (text : Run) : Type 0 where
  pub len : text.len ≡ message.text_len
  pub placed : IsRunPlaced SHADOW_CEILING text
  pub inside : (files : Files) → All (IsCopyIn (files Jdt) (files Ndt)) copies → IsRunPlaced (length (files Ndt)) text
  pub bytes : (files : Files) → All (IsCopyIn (files Jdt) (files Ndt)) copies → bytes_at text.at text.len (files Ndt) ≡ text_of (files Jdt) message

-- it is so
pub is_text_run : (headers_len texts_len : ℕ) (copies : List CopiedText) (k : ℕ) (message : LoadedMessage) → All IsBelowCeiling copies
    → IsMessageWithin headers_len texts_len message → left_of (get_or copies k not_copied) (Live message) ≡ 0
    → IsTextRun copies message (record { at = (get_or copies k not_copied).at; len = message.text_len })
is_text_run headers_len texts_len copies k message below within none =
    let copied : CopiedText = get_or copies k not_copied in
    let low : IsBelowCeiling copied = copy_below copies k below in
    let cases = left-zero_cases copied message none in
    record {
      len = refl;
      placed = record {
        inside = elim cases [ inl there ↦ let len = there.1 in inr (omega (arith, low)) | inr empty ↦ inl empty ];
        short = omega (arith, within.text.short);
      };
      inside = λ files each. record {
        inside = elim cases [
          | inl there ↦
              let len = there.1 in
              let inside = (copy_in (files Jdt) (files Ndt) copies k each).there in
              inr (omega arith)
          | inr empty ↦ inl empty
        ];
        short = omega (arith, within.text.short);
      };
      bytes = λ files each. elim cases [
        | inl there ↦
            subst (λ n. bytes_at copied.at n (files Ndt) ≡ bytes_at message.text_at n (files Jdt)) there.1
            (subst (λ n. bytes_at copied.at copied.len (files Ndt) ≡ bytes_at n copied.len (files Jdt)) there.0 (copy_in (files Jdt) (files Ndt) copies k each).same)
        | inr empty ↦ subst (λ n. take n (drop copied.at (files Ndt)) ≡ take n (drop message.text_at (files Jdt))) (sym empty) refl
      ];
    }

-- one part more
in-one : (file : List ℕ) (runs : List Run) (run : Run) → bytes_in file (runs ++ run ∷ []) ≡ bytes_in file runs ++ bytes_at run.at run.len file
in-one file runs run = in-append file runs (run ∷ []) ∙ ap (λ (l : List ℕ). bytes_in file runs ++ l) (append-nil (bytes_at run.at run.len file))

-- its copy behind those of the others
put_behind : (first : List Piece) (runs : List Run) (pieces : List Piece) (run : Run) (end : ℕ) → pieces ≡ first ++ copies_of 0 runs → end ≡ runs_size runs
    → pieces ++ Copy Ndt run.at Jdt end run.len ∷ [] ≡ first ++ copies_of 0 (runs ++ run ∷ [])
put_behind first runs pieces run end are end_is =
    let there : runs_size runs ≡ 0 + runs_size runs = omega arith in
    (λ i. are i ++ Copy Ndt run.at Jdt ((end_is ∙ there) i) run.len ∷ [])
    ∙ append_assoc first (copies_of 0 runs) (copies_of (0 + runs_size runs) (run ∷ []))
    ∙ ap (λ (l : List Piece). first ++ l) (sym (copies-append 0 runs (run ∷ [])))

module _ (loaded : Loaded) (copies : List CopiedText) (start : RedoView) where
  -- some texts are put as copies, a part of .NDT is to follow, and these slots are left
  pub record IsPutting (redo : RedoView) (run : Run) (end : ℕ) (rest : List LoadedSlot) : Type 0 where
    pub runs : List Run
    pub lengths : redo.lengths ≡ start.lengths
    pub pieces : redo.pieces ≡ start.pieces ++ copies_of 0 runs
    pub end_is : end ≡ runs_size runs
    pub few : length runs + live_slots rest ≤ live_slots loaded.slots
    pub size : runs_size runs + run.len + texts_size rest ≡ texts_size loaded.slots
    pub below : All (IsRun SHADOW_CEILING) runs
    pub run_is : IsRun SHADOW_CEILING run
    pub within : All (IsSlotWithin loaded.headers_len loaded.texts_len) rest
    pub bytes : (files : Files) → All (IsCopyIn (files Jdt) (files Ndt)) copies
        → bytes_in (files Ndt) runs ++ (bytes_at run.at run.len (files Ndt) ++ texts_in (files Jdt) rest) ≡ texts_in (files Jdt) loaded.slots
    pub inside : (files : Files) → All (IsCopyIn (files Jdt) (files Ndt)) copies → All (IsRun (length (files Ndt))) runs × IsRun (length (files Ndt)) run
    pub room : KeepsRoom start redo

  -- at first nothing is put
  pub putting_none : All (IsSlotWithin loaded.headers_len loaded.texts_len) loaded.slots → IsPutting start (record { at = 0; len = 0 }) 0 loaded.slots
  putting_none within = record {
    runs = [];
    lengths = refl;
    pieces = sym (append-nil start.pieces);
    end_is = refl;
    few = omega arith;
    size = omega arith;
    below = All-nil (IsRun SHADOW_CEILING);
    run_is = record { inside = omega arith; short = omega arith };
    within = within;
    bytes = λ files each. refl;
    inside = λ files each. (All-nil (IsRun (length (files Ndt))), record { inside = omega arith; short = omega arith });
    room = record { for_lengths = omega arith; for_pieces = omega arith; for_bytes = omega arith };
  }

  -- a slot without a live message adds nothing
  putting_other : (redo : RedoView) (run : Run) (end : ℕ) (slot : LoadedSlot) (rest : List LoadedSlot) → live_slots (slot ∷ rest) ≡ live_slots rest
      → texts_size (slot ∷ rest) ≡ texts_size rest → ((texts : List ℕ) → texts_in texts (slot ∷ rest) ≡ texts_in texts rest)
      → IsPutting redo run end (slot ∷ rest) → IsPutting redo run end rest
  putting_other redo run end slot rest live size texts putting = record {
    runs = putting.runs;
    lengths = putting.lengths;
    pieces = putting.pieces;
    end_is = putting.end_is;
    few = omega (arith, putting.few, live);
    size = omega (arith, putting.size, size);
    below = putting.below;
    run_is = putting.run_is;
    within = All-tail (IsSlotWithin loaded.headers_len loaded.texts_len) slot rest putting.within;
    bytes = λ files each.
        ap (λ (l : List ℕ). bytes_in (files Ndt) putting.runs ++ (bytes_at run.at run.len (files Ndt) ++ l)) (sym (texts (files Jdt))) ∙ putting.bytes files each;
    inside = putting.inside;
    room = putting.room;
  }

  -- whichever it is
  pub putting_no_message : (redo : RedoView) (run : Run) (end : ℕ) (slot : LoadedSlot) (rest : List LoadedSlot)
      → ((message : LoadedMessage) → slot ≡ Live message → ⊥) → IsPutting redo run end (slot ∷ rest) → IsPutting redo run end rest
  putting_no_message redo run end Empty rest other putting =
      putting_other redo run end Empty rest (omega (arith, sum_by-cons (λ (slot : LoadedSlot). cond (is_live_slot slot) 1 0) Empty rest)) (omega (arith, sum_by-cons slot_text_size Empty rest)) (λ texts. refl) putting
  putting_no_message redo run end (Killed at) rest other putting =
      putting_other redo run end (Killed at) rest (omega (arith, sum_by-cons (λ (slot : LoadedSlot). cond (is_live_slot slot) 1 0) (Killed at) rest)) (omega (arith, sum_by-cons slot_text_size (Killed at) rest)) (λ texts. refl)
      putting
  putting_no_message redo run end (Live message) rest other putting = absurd (other message refl)

  module _ (redo : RedoView) (run : Run) (end : ℕ) (message : LoadedMessage) (text : Run) (rest : List LoadedSlot) (is : IsTextRun copies message text)
      (putting : IsPutting redo run end (Live message ∷ rest)) where
    -- how many are live
    live_is : live_slots (Live message ∷ rest) ≡ 1 + live_slots rest
    live_is = sum_by-cons (λ (slot : LoadedSlot). cond (is_live_slot slot) 1 0) (Live message) rest

    -- how long the texts are
    size_is : texts_size (Live message ∷ rest) ≡ message.text_len + texts_size rest
    size_is = sum_by-cons slot_text_size (Live message) rest

    -- the text is put with the part, where it stands right behind it
    pub putting_joined : (more : Run) → IsJoined run text more → ((end : ℕ) → IsRun end run → IsRunPlaced end text → IsRun end more) → IsPutting redo more end rest
    putting_joined more joined more_is = record {
      runs = putting.runs;
      lengths = putting.lengths;
      pieces = putting.pieces;
      end_is = putting.end_is;
      few = omega (arith, putting.few, live_is);
      size = omega (arith, putting.size, size_is, joined.size, is.len);
      below = putting.below;
      run_is = more_is SHADOW_CEILING putting.run_is is.placed;
      within = All-tail (IsSlotWithin loaded.headers_len loaded.texts_len) (Live message) rest putting.within;
      bytes = λ files each.
          ap (λ (l : List ℕ). bytes_in (files Ndt) putting.runs ++ (l ++ texts_in (files Jdt) rest)) (joined.bytes (files Ndt))
          ∙ ap (λ (l : List ℕ). bytes_in (files Ndt) putting.runs ++ l)
          (append_assoc (bytes_at run.at run.len (files Ndt)) (bytes_at text.at text.len (files Ndt)) (texts_in (files Jdt) rest)
          ∙ ap (λ (l : List ℕ). bytes_at run.at run.len (files Ndt) ++ (l ++ texts_in (files Jdt) rest)) (is.bytes files each))
          ∙ putting.bytes files each;
      inside = λ files each. (
        (putting.inside files each).0,
        more_is (length (files Ndt)) (putting.inside files each).1 (is.inside files each),
      );
      room = putting.room;
    }

    -- it begins a part of its own, once that before it is put
    pub putting_next : (redo' : RedoView) (next : ℕ) → redo'.lengths ≡ redo.lengths → redo'.pieces ≡ redo.pieces ++ Copy Ndt run.at Jdt end run.len ∷ [] → next ≡ end + run.len
        → KeepsRoom redo redo' → ((end : ℕ) → IsRunPlaced end text → IsRun end text) → IsPutting redo' text next rest
    putting_next redo' next lengths_are pieces_are next_is keeps text_is = record {
      runs = putting.runs ++ run ∷ [];
      lengths = lengths_are ∙ putting.lengths;
      pieces = pieces_are ∙ put_behind start.pieces putting.runs redo.pieces run end putting.pieces putting.end_is;
      end_is = omega (arith, putting.end_is, sum_by_push (λ (r : Run). r.len) putting.runs run);
      few = omega (arith, putting.few, live_is, length-append putting.runs (run ∷ []));
      size = omega (arith, putting.size, size_is, is.len, sum_by_push (λ (r : Run). r.len) putting.runs run);
      below = All-append (IsRun SHADOW_CEILING) putting.runs (run ∷ []) putting.below (All-cons (IsRun SHADOW_CEILING) run [] putting.run_is (All-nil (IsRun SHADOW_CEILING)));
      run_is = text_is SHADOW_CEILING is.placed;
      within = All-tail (IsSlotWithin loaded.headers_len loaded.texts_len) (Live message) rest putting.within;
      bytes = λ files each.
          (λ i. in-one (files Ndt) putting.runs run i ++ (is.bytes files each i ++ texts_in (files Jdt) rest))
          ∙ append_assoc (bytes_in (files Ndt) putting.runs) (bytes_at run.at run.len (files Ndt)) (text_of (files Jdt) message ++ texts_in (files Jdt) rest)
          ∙ putting.bytes files each;
      inside = λ files each. (
        All-append (IsRun (length (files Ndt))) putting.runs (run ∷ []) (putting.inside files each).0
            (All-cons (IsRun (length (files Ndt))) run [] (putting.inside files each).1 (All-nil (IsRun (length (files Ndt))))),
        text_is (length (files Ndt)) (is.inside files each),
      );
      room = keeps_then start redo redo' putting.room keeps;
    }

  -- once the last part is put all texts are
  pub put_all : (redo redo' : RedoView) (run : Run) (end : ℕ) → IsPutting redo run end [] → redo'.lengths ≡ redo.lengths
      → redo'.pieces ≡ redo.pieces ++ Copy Ndt run.at Jdt end run.len ∷ [] → length redo'.pieces < 2 ^ 32 → PutsCopies copies loaded.slots start redo'
  put_all redo redo' run end putting lengths_are pieces_are many = record {
    runs = putting.runs ++ run ∷ [];
    lengths = lengths_are ∙ putting.lengths;
    pieces = pieces_are ∙ put_behind start.pieces putting.runs redo.pieces run end putting.pieces putting.end_is;
    few = omega (arith, putting.few, length-append putting.runs (run ∷ []));
    many = many;
    size = omega (arith, putting.size, sum_by_push (λ (r : Run). r.len) putting.runs run);
    below = All-append (IsRun SHADOW_CEILING) putting.runs (run ∷ []) putting.below (All-cons (IsRun SHADOW_CEILING) run [] putting.run_is (All-nil (IsRun SHADOW_CEILING)));
    texts = λ files each. record {
      bytes =
          in-one (files Ndt) putting.runs run
          ∙ ap (λ (l : List ℕ). bytes_in (files Ndt) putting.runs ++ l) (sym (append-nil (bytes_at run.at run.len (files Ndt))))
          ∙ putting.bytes files each;
      inside =
          All-append (IsRun (length (files Ndt))) putting.runs (run ∷ []) (putting.inside files each).0
          (All-cons (IsRun (length (files Ndt))) run [] (putting.inside files each).1 (All-nil (IsRun (length (files Ndt)))));
    };
  }
