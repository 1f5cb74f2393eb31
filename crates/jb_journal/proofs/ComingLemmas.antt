-- Moments that come one call after another.
use Rattle.std.proofs.Common.{◌≡◌, ℕ, List, [], ◌∷◌, ◌++◌, Option, Some, None, Result, Ok, Err, OnOk, refl, sym, ◌∙◌, ap, subst, append-nil}
use Rattle.jb_disk.specs.declared.file.FileId.{FileId}
use Rattle.jb_disk.specs.declared.piece.Length.{Length}
use Rattle.jb_disk.specs.Device.{Device, Syncs, TellsAnImage, and_then}
use Rattle.jb_disk.specs.Files.{Files}
use Rattle.jb_disk.specs.Images.{Images, just_synced, torn, cut, with_image}
use Rattle.jb_disk.specs.declared.piece.Piece.{Piece}
use Rattle.jb_disk.specs.declared.file.FileId.TheVariants.{Jhr, Jdt, Jdx, Jlr, Jnl}
use Rattle.jb_journal.specs.Coming.{Done, Wrote, Resized, Synced, ComeBy, SyncsIfChanged, SyncsChanged, made_by, moments_after, lengths_of, syncs_of}

-- one run of calls after another
after-append : (calls more : List Done) (moments : List Images) → moments_after (calls ++ more) moments ≡ moments_after more (moments_after calls moments)
after-append [] more moments = refl
after-append (call ∷ calls) more moments = after-append calls more (and_then (made_by call) moments)

-- their lengths
lengths-append : (calls more : List Done) → lengths_of (calls ++ more) ≡ lengths_of calls ++ lengths_of more
lengths-append [] more = refl
lengths-append (Wrote file at len ∷ calls) more = lengths-append calls more
lengths-append (Resized entry ∷ calls) more = ap (λ (l : List Length). entry ∷ l) (lengths-append calls more)
lengths-append (Synced file bytes ∷ calls) more = lengths-append calls more

-- and their syncs
syncs-append : (calls more : List Done) → syncs_of (calls ++ more) ≡ syncs_of calls ++ syncs_of more
syncs-append [] more = refl
syncs-append (Wrote file at len ∷ calls) more = syncs-append calls more
syncs-append (Resized entry ∷ calls) more = syncs-append calls more
syncs-append (Synced file bytes ∷ calls) more = ap (λ (l : List FileId). file ∷ l) (syncs-append calls more)

-- none has come
pub come_none : (moments : List Images) → ComeBy [] [] moments moments
come_none moments = record { calls = []; all = refl; lengths_are = refl; syncs_are = refl }

-- some, and then others
pub come_then : (first second : List Length) (syncs more : List FileId) (a b c : List Images) → ComeBy first syncs a b → ComeBy second more b c → ComeBy (first ++ second) (syncs ++ more) a c
come_then first second syncs more a b c one other = record {
  calls = one.calls ++ other.calls;
  all = other.all ∙ ap (moments_after other.calls) one.all ∙ sym (after-append one.calls other.calls a);
  lengths_are = lengths-append one.calls other.calls ∙ (λ i. one.lengths_are i ++ other.lengths_are i);
  syncs_are = syncs-append one.calls other.calls ∙ (λ i. one.syncs_are i ++ other.syncs_are i);
}

-- some, and then writes
pub come_on : (lengths : List Length) (syncs : List FileId) (a b c : List Images) → ComeBy lengths syncs a b → ComeBy [] [] b c → ComeBy lengths syncs a c
come_on lengths syncs a b c one other =
    subst (λ (l : List Length). ComeBy l syncs a c) (append-nil lengths) (subst (λ (l : List FileId). ComeBy (lengths ++ []) l a c) (append-nil syncs) (come_then lengths [] syncs [] a b c one other))

-- new lengths, and then syncs
pub come_synced_on : (lengths : List Length) (syncs : List FileId) (a b c : List Images) → ComeBy lengths [] a b → ComeBy [] syncs b c → ComeBy lengths syncs a c
come_synced_on lengths syncs a b c one other = subst (λ (l : List Length). ComeBy l syncs a c) (append-nil lengths) (come_then lengths [] [] syncs a b c one other)

-- by a write
pub come_wrote : (file : FileId) (at len : ℕ) (old new : List Images) → new ≡ and_then (with_image file (torn at len)) old → ComeBy [] [] old new
come_wrote file at len old new is = record { calls = Wrote file at len ∷ []; all = is; lengths_are = refl; syncs_are = refl }

-- by a new length
pub come_resized : (entry : Length) (old new : List Images) → new ≡ and_then (with_image entry.file (cut entry.len)) old → ComeBy (entry ∷ []) [] old new
come_resized entry old new is = record { calls = Resized entry ∷ []; all = is; lengths_are = refl; syncs_are = refl }

-- by a sync
pub come_synced : {T E : Type 0} (file : FileId) (old new : Device) (result : Result T E) → TellsAnImage old → TellsAnImage new → Syncs file old new result → OnOk result (ComeBy [] (file ∷ []) old.moments new.moments)
come_synced file old new (Err error) tells_old tells_new syncs = tt
come_synced file old new (Ok value) tells_old tells_new syncs = by_contents old.contents refl
  where
    by_contents : (contents : Option Files) → old.contents ≡ contents → ComeBy [] (file ∷ []) old.moments new.moments
    by_contents None none =
        let before = tells_old.both none in
        let now = tells_new.both (syncs.kept ∙ none) in
        record { calls = Synced file [] ∷ []; all = now ∙ sym (ap (and_then (with_image file (λ _. just_synced []))) before); lengths_are = refl; syncs_are = refl }
    by_contents (Some files) some = record { calls = Synced file (files file) ∷ []; all = syncs.done files some; lengths_are = refl; syncs_are = refl }

-- the four files of the base
pub syncs_four : (lengths : List Length) (pieces : List Piece) (a b c d e : List Images) → SyncsIfChanged lengths pieces Jhr a b → SyncsIfChanged lengths pieces Jdt b c → SyncsIfChanged lengths pieces Jdx c d
    → SyncsIfChanged lengths pieces Jlr d e → SyncsChanged [] [] [] lengths pieces a e
syncs_four lengths pieces a b c d e one two three four =
    let files = one.syncs ++ (two.syncs ++ (three.syncs ++ four.syncs)) in
    record {
      files = files;
      changed = record {
        headers = one.syncs;
        texts = two.syncs;
        index = three.syncs;
        lastread = four.syncs;
        headers_are = one.one;
        texts_are = two.one;
        index_is = three.one;
        lastread_is = four.one;
        all = refl;
      };
      come = subst (λ (l : List FileId). ComeBy [] l a e) (sym (append-nil files))
          (come_then [] [] one.syncs (two.syncs ++ (three.syncs ++ four.syncs)) a b e one.come
          (come_then [] [] two.syncs (three.syncs ++ four.syncs) b c e two.come (come_then [] [] three.syncs four.syncs c d e three.come four.come)));
    }

-- new lengths before them
pub syncs_behind : (set lengths : List Length) (pieces : List Piece) (a b c : List Images) → ComeBy set [] a b → SyncsChanged [] [] [] lengths pieces b c → SyncsChanged [] [] set lengths pieces a c
syncs_behind set lengths pieces a b c first rest = record { files = rest.files; changed = rest.changed; come = come_synced_on set (rest.files ++ []) a b c first rest.come }

-- the journal behind them
pub syncs_closed : (set lengths : List Length) (pieces : List Piece) (a b c : List Images) → SyncsChanged [] [] set lengths pieces a b → ComeBy [] (Jnl ∷ []) b c → SyncsChanged [] (Jnl ∷ []) set lengths pieces a c
syncs_closed set lengths pieces a b c first rest = record {
  files = first.files;
  changed = first.changed;
  come = subst (λ (l : List Length). ComeBy l (first.files ++ Jnl ∷ []) a c) (append-nil set)
      (come_then set [] first.files (Jnl ∷ []) a b c (subst (λ (l : List FileId). ComeBy set l a b) (append-nil first.files) first.come) rest);
}

-- and before them
pub syncs_opened : (entry : Length) (set lengths : List Length) (pieces : List Piece) (a b c : List Images) → ComeBy (entry ∷ []) (Jnl ∷ Jnl ∷ []) a b → SyncsChanged [] (Jnl ∷ []) set lengths pieces b c
    → SyncsChanged (Jnl ∷ Jnl ∷ []) (Jnl ∷ []) (entry ∷ set) lengths pieces a c
syncs_opened entry set lengths pieces a b c first rest = record {
  files = rest.files;
  changed = rest.changed;
  come = come_then (entry ∷ []) set (Jnl ∷ Jnl ∷ []) (rest.files ++ Jnl ∷ []) a b c first rest.come;
}
