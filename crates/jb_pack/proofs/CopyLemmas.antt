-- The texts of an area as they are copied, part by part.
use Rattle.std.proofs.Common.{◌≡◌, ◌≢◌, inl, inr, ℕ, cond, zero, suc, ◌+◌, ◌≤◌, List, [], ◌∷◌, ◌++◌, Option, length, min, take, drop, All, refl, sym, ◌∙◌, ap, subst, arith, append_assoc, length-append}
use Rattle.std.specs.Option.{ForSome}
use Rattle.std.proofs.lemmas.List.{append-nil, drop-drop}
use Rattle.std.proofs.Math.Seq.{drop-length}
use Rattle.std.proofs.lemmas.List.Sums.{sum_by-cons}
use Rattle.std.proofs.lemmas.List.Elements.{All-tail}
use Rattle.jb_limits.specs.declared.limits.TheConstants.{TEXTS_CEILING}
use Rattle.jb_redo.specs.Changes.{KeepsRoom}
use Rattle.jb_disk.specs.RedoView.{RedoView}
use Rattle.jb_disk.specs.Files.{Files}
use Rattle.jb_disk.specs.declared.file.FileId.TheVariants.{Jdt}
use Rattle.jb_image.specs.Places.{bytes_at}
use Rattle.jb_state.specs.Sound.{IsSlotWithin, IsTextWithin}
use Rattle.jb_state.specs.State.{text_of}
use Rattle.jb_state.specs.declared.loaded.Loaded.{Loaded}
use Rattle.jb_state.specs.declared.loaded.LoadedMessage.{LoadedMessage}
use Rattle.jb_state.specs.declared.loaded.LoadedSlot.{LoadedSlot}
use Rattle.jb_state.specs.declared.loaded.LoadedSlot.TheVariants.{Empty, Killed, Live}
use Rattle.jb_pack.specs.Copying.{PutsRun, PutsTexts}
use Rattle.jb_pack.specs.Laid.{Lays, laid}
use Rattle.jb_state.specs.Packed.{is_live_slot, live_slots, slot_text_size, texts_in, texts_size}
use Rattle.jb_pack.specs.Runs.{IsJoined, IsRunPlaced, IsRun}
use Rattle.jb_pack.specs.declared.run.Run.{Run}
use Rattle.jb_pack.proofs.SlotLemmas.{keeps_then, lays_fewer, lays_none, lays_then}

-- nothing has no first bytes
take-none : (n : ℕ) → take {A = ℕ} n [] ≡ []
take-none zero = refl
take-none (suc n) = refl

-- the first bytes, and those behind them
take-more : (n m : ℕ) (bytes : List ℕ) → take (n + m) bytes ≡ take n bytes ++ take m (drop n bytes)
take-more zero m bytes =
    let same : 0 + m ≡ m = omega arith in
    ap (λ k. take k bytes) same
take-more (suc n) m [] = take-none (suc n + m) ∙ sym (take-none m)
take-more (suc n) m (byte ∷ bytes) =
    let same : suc n + m ≡ suc (n + m) = omega arith in
    ap (λ k. take k (byte ∷ bytes)) same ∙ ap (λ (l : List ℕ). byte ∷ l) (take-more n m bytes)

-- a part, and the part right behind it
pub bytes-more : (at n m : ℕ) (bytes : List ℕ) → bytes_at at (n + m) bytes ≡ bytes_at at n bytes ++ bytes_at (at + n) m bytes
bytes-more at n m bytes = take-more n m (drop at bytes) ∙ ap (λ (l : List ℕ). take n (drop at bytes) ++ take m l) (drop-drop n at bytes)

-- the text of a message lies within .JDT, or has no byte
pub text_placed : (texts_len at len : ℕ) → IsTextWithin texts_len at len → IsRunPlaced (min texts_len TEXTS_CEILING) (record { at = at; len = len })
text_placed texts_len at len within = record {
  inside = elim within.placed [
    | inl none ↦ inl none
    | inr there ↦
        let inside = there.0 in
        let below = there.1 in
        inr (omega arith)
  ];
  short = omega (arith, within.short);
}

-- a text that has bytes is a part to read
pub text_run : (end : ℕ) (run : Run) → run.len ≢ 0 → IsRunPlaced end run → IsRun end run
text_run end run some placed = record {
  inside = elim placed.inside [ inl none ↦ absurd (some none) | inr there ↦ there ];
  short = placed.short;
}

module _ (loaded : Loaded) (contents : Option Files) (slots : List LoadedSlot) (start : RedoView) where
  -- some texts are put, a part is to follow, and these slots are left
  pub record IsCopied (redo : RedoView) (run : Run) (end : ℕ) (rest : List LoadedSlot) : Type 0 where
    pub done : List ℕ
    pub parts : ℕ
    pub lays : Lays Jdt parts done start redo
    pub few : parts + live_slots rest ≤ live_slots slots
    pub told : ForSome contents (λ files. done ++ bytes_at run.at run.len (files Jdt) ++ texts_in (files Jdt) rest ≡ texts_in (files Jdt) slots)
    pub size : length done + run.len + texts_size rest ≡ texts_size slots
    pub end_is : end ≡ length (laid redo.pieces Jdt)
    pub done_is : end ≡ length done
    pub run_is : IsRun (min loaded.texts_len TEXTS_CEILING) run
    pub within : All (IsSlotWithin loaded.headers_len loaded.texts_len) rest
    pub room : KeepsRoom start redo

  -- at first nothing is put
  pub copied_none : All (IsSlotWithin loaded.headers_len loaded.texts_len) slots → length (laid start.pieces Jdt) ≡ 0
      → IsCopied start (record { at = 0; len = 0 }) 0 slots
  copied_none within begin = record {
    done = [];
    parts = 0;
    lays = lays_none Jdt start;
    few = omega arith;
    told = λ files is. refl;
    size = omega arith;
    end_is = sym begin;
    done_is = refl;
    run_is = record { inside = omega arith; short = omega arith };
    within = within;
    room = record { for_lengths = omega arith; for_pieces = omega arith; for_bytes = omega arith };
  }

  -- a slot without a live message adds nothing
  pub copied_no_message : (redo : RedoView) (run : Run) (end : ℕ) (slot : LoadedSlot) (rest : List LoadedSlot)
      → ((message : LoadedMessage) → slot ≡ Live message → ⊥) → IsCopied redo run end (slot ∷ rest) → IsCopied redo run end rest
  copied_no_message redo run end Empty rest other copied = record {
    done = copied.done;
    parts = copied.parts;
    lays = copied.lays;
    few = omega (arith, copied.few, sum_by-cons (λ (s : LoadedSlot). cond (is_live_slot s) 1 0) Empty rest);
    told = copied.told;
    size = omega (arith, copied.size, sum_by-cons slot_text_size Empty rest);
    end_is = copied.end_is;
    done_is = copied.done_is;
    run_is = copied.run_is;
    within = All-tail (IsSlotWithin loaded.headers_len loaded.texts_len) Empty rest copied.within;
    room = copied.room;
  }
  copied_no_message redo run end (Killed at) rest other copied = record {
    done = copied.done;
    parts = copied.parts;
    lays = copied.lays;
    few = omega (arith, copied.few, sum_by-cons (λ (s : LoadedSlot). cond (is_live_slot s) 1 0) (Killed at) rest);
    told = copied.told;
    size = omega (arith, copied.size, sum_by-cons slot_text_size (Killed at) rest);
    end_is = copied.end_is;
    done_is = copied.done_is;
    run_is = copied.run_is;
    within = All-tail (IsSlotWithin loaded.headers_len loaded.texts_len) (Killed at) rest copied.within;
    room = copied.room;
  }
  copied_no_message redo run end (Live message) rest other copied = absurd (other message refl)

  -- a text that stands right behind the part makes it longer
  pub copied_joined : (redo : RedoView) (run more : Run) (end : ℕ) (message : LoadedMessage) (rest : List LoadedSlot)
      → IsJoined run (record { at = message.text_at; len = message.text_len }) more → IsRun (min loaded.texts_len TEXTS_CEILING) more → IsCopied redo run end (Live message ∷ rest) → IsCopied redo more end rest
  copied_joined redo run more end message rest joined run_is copied = record {
    done = copied.done;
    parts = copied.parts;
    lays = copied.lays;
    few = omega (arith, copied.few, sum_by-cons (λ (s : LoadedSlot). cond (is_live_slot s) 1 0) (Live message) rest);
    told = λ files is.
        ap (λ (l : List ℕ). copied.done ++ l ++ texts_in (files Jdt) rest) (joined.bytes (files Jdt))
        ∙ ap (λ (l : List ℕ). l ++ texts_in (files Jdt) rest) (sym (append_assoc copied.done (bytes_at run.at run.len (files Jdt)) (text_of (files Jdt) message)))
        ∙ append_assoc (copied.done ++ bytes_at run.at run.len (files Jdt)) (text_of (files Jdt) message) (texts_in (files Jdt) rest)
        ∙ copied.told files is;
    size = omega (arith, copied.size, joined.size, sum_by-cons slot_text_size (Live message) rest);
    end_is = copied.end_is;
    done_is = copied.done_is;
    run_is = run_is;
    within = All-tail (IsSlotWithin loaded.headers_len loaded.texts_len) (Live message) rest copied.within;
    room = copied.room;
  }

  -- another text begins a part of its own, once the part before it is put
  pub copied_next : (redo redo' : RedoView) (run : Run) (end next : ℕ) (message : LoadedMessage) (rest : List LoadedSlot)
      → PutsRun contents run redo redo' → next ≡ end + run.len → KeepsRoom redo redo' → IsRun (min loaded.texts_len TEXTS_CEILING) (record { at = message.text_at; len = message.text_len })
      → IsCopied redo run end (Live message ∷ rest) → IsCopied redo' (record { at = message.text_at; len = message.text_len }) next rest
  copied_next redo redo' run end next message rest puts next_is keeps run_is copied = record {
    done = copied.done ++ puts.bytes;
    parts = copied.parts + 1;
    lays = lays_then Jdt copied.parts 1 copied.done puts.bytes start redo redo' copied.lays puts.lays;
    few = omega (arith, copied.few, sum_by-cons (λ (s : LoadedSlot). cond (is_live_slot s) 1 0) (Live message) rest);
    told = λ files is.
        ap (λ (l : List ℕ). copied.done ++ l ++ text_of (files Jdt) message ++ texts_in (files Jdt) rest) (puts.told files is)
        ∙ append_assoc (copied.done ++ bytes_at run.at run.len (files Jdt)) (text_of (files Jdt) message) (texts_in (files Jdt) rest)
        ∙ copied.told files is;
    size = omega (arith, copied.size, puts.size, length-append copied.done puts.bytes, sum_by-cons slot_text_size (Live message) rest);
    end_is = omega (arith, copied.end_is, puts.size, ap length puts.lays.here, length-append (laid redo.pieces Jdt) puts.bytes);
    done_is = omega (arith, copied.done_is, puts.size, length-append copied.done puts.bytes);
    run_is = run_is;
    within = All-tail (IsSlotWithin loaded.headers_len loaded.texts_len) (Live message) rest copied.within;
    room = keeps_then start redo redo' copied.room keeps;
  }

  -- what is left to put fits
  pub run_fits : (redo : RedoView) (run : Run) (end : ℕ) (rest : List LoadedSlot) → texts_size slots ≤ TEXTS_CEILING → IsCopied redo run end rest
      → end + run.len ≤ TEXTS_CEILING
  run_fits redo run end rest fits copied = omega (arith, copied.size, copied.done_is)

  -- where the end is reached none is left
  pub copied_end : (redo : RedoView) (run : Run) (end count : ℕ) → length slots ≤ count → count ≤ length slots → IsCopied redo run end (drop count slots)
      → IsCopied redo run end []
  copied_end redo run end count reached within copied =
      let even : count ≡ length slots = omega (arith, reached, within) in
      subst (IsCopied redo run end) (ap (λ (n : ℕ). drop n slots) even ∙ drop-length slots) copied

  -- once the last part is put, all texts are
  pub copied_all : (redo redo' : RedoView) (run : Run) (end : ℕ) → PutsRun contents run redo redo' → IsCopied redo run end [] → PutsTexts contents slots start redo'
  copied_all redo redo' run end puts copied = record {
    bytes = copied.done ++ puts.bytes;
    size = omega (arith, copied.size, puts.size, length-append copied.done puts.bytes);
    lays = lays_fewer Jdt (copied.parts + 1) (live_slots slots + 1) (copied.done ++ puts.bytes) start redo' (omega (arith, copied.few))
        (lays_then Jdt copied.parts 1 copied.done puts.bytes start redo redo' copied.lays puts.lays);
    told = λ files is.
        ap (λ (l : List ℕ). copied.done ++ l) (puts.told files is) ∙ sym (append-nil (copied.done ++ bytes_at run.at run.len (files Jdt)))
        ∙ copied.told files is;
  }
