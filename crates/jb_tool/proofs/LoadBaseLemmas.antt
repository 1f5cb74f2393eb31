-- The files of an empty base are made, and hold the empty area.
use Rattle.std.proofs.Common.{◌≡◌, ◌≢◌, inl, inr, ℕ, List, [], ◌∷◌, length, take, drop, ap, refl, sym, ◌∙◌, subst, arith, Option, Some, None}
use Rattle.std.proofs.lemmas.List.{places, same_lists}
use Rattle.std.specs.Option.{ForSome, option_map}
use Rattle.std.specs.Prelude.{slice_index}
use Rattle.jb_area.specs.Holds.{IsAtRest}
use Rattle.jb_change.specs.NewBase.{new_loaded}
use Rattle.jb_decide.specs.Holds.{AreTexts}
use Rattle.jb_disk.proofs.RunLemmas.{durable}
use Rattle.jb_disk.specs.Device.{Device, Turns, and_then}
use Rattle.jb_disk.specs.FileLaws.{same_file, same_files, with_file-here, with_file-other}
use Rattle.jb_disk.specs.Files.{Files, InFile, IsResized, overwritten, with_file, written}
use Rattle.jb_disk.specs.Images.{Images, just_synced, with_image}
use Rattle.jb_disk.specs.Runs.{IsAllSynced, Keeps, LeavesNow}
use Rattle.jb_disk.specs.declared.file.FileId.{FileId}
use Rattle.jb_disk.specs.declared.file.FileId.TheVariants.{Jhr, Jdt, Jdx, Jlr, Jnl}
use Rattle.jb_image.specs.Places.{bytes_at}
use Rattle.jb_image.specs.Stands.{Loads}
use Rattle.jb_journal.specs.Prepare.{IsPrepared}
use Rattle.jb_disk.specs.Gate.{IsGateOpen, version_by, version_number, version_of}
use Rattle.jb_disk.specs.declared.version.Version.TheVariants.{Two}
use Rattle.jb_record.proofs.ReadAgain.{fixed_header_of-back}
use Rattle.jb_record.specs.Fields.{signature}
use Rattle.jb_record.specs.Fixed.{FitsFixedHeader, fixed_header_bytes, fixed_header_of}
use Rattle.jb_tool.specs.LoadBase.{AgreeButHeaders, HaveNoByte, IsEmptyBase, empty_header}
use Rattle.jb_journal.proofs.Told.{told_back}

-- what is told of an empty disk is empty
pub told_empty : (contents : Option Files) → contents ≡ Some (λ file. []) → ForSome contents HaveNoByte
told_empty contents none = λ files there file.
    let told : Some (λ (other : FileId). []) ≡ Some files = sym none ∙ there in
    let same : (λ (other : FileId). []) ≡ files = cc in
    sym (ap (λ (x : Files). x file) same)

-- the bytes of its header
pub header_size : length (fixed_header_bytes empty_header) ≡ 1024
unfolding fixed_header_bytes
header_size = refl

-- it begins with the signature
header_signed : take 4 (fixed_header_bytes empty_header) ≡ signature
unfolding fixed_header_bytes
header_signed = refl

-- the numbers of the header fit their widths
header_fits : FitsFixedHeader empty_header
header_fits = record { created = omega arith; counter = omega arith; active = omega arith; password = omega arith; base = omega arith }

-- all of a list, from its beginning
whole_list : (n : ℕ) (bytes : List ℕ) → length bytes ≡ n → take n (drop 0 bytes) ≡ bytes
whole_list n bytes size = same_lists _ _ (grind (arith, places)) (λ k d h. grind (arith, places))

module _ (files : Files) (is : IsEmptyBase files) where
  -- the header that stands in the files
  header_there : bytes_at 0 1024 (files Jhr) ≡ fixed_header_bytes empty_header
  header_there = ap (λ (l : List ℕ). bytes_at 0 1024 l) is.headers ∙ whole_list 1024 (fixed_header_bytes empty_header) header_size

  -- the files hold the empty area
  empty_loads : Loads (new_loaded 0) files
  empty_loads = record {
    header = record {
      size = ap (λ (l : List ℕ). length l) header_there ∙ header_size;
      signed = ap (λ (l : List ℕ). take 4 l) header_there ∙ header_signed;
    };
    fixed = sym (fixed_header_of-back empty_header header_fits) ∙ ap fixed_header_of (sym header_there);
    base = omega arith;
    numbers = omega arith;
    index = ap (λ (l : List ℕ). length l) is.index;
    slots = λ k d low. absurd (omega (arith, low));
    apart = λ i j d order low. absurd (omega (arith, low));
    lastread = ap (λ (l : List ℕ). length l) is.marks;
    marks = λ k d low. absurd (omega (arith, low));
    few_marks = omega arith;
    headers_len = sym (ap (λ (l : List ℕ). length l) is.headers ∙ header_size);
    texts_len = sym (ap (λ (l : List ℕ). length l) is.texts);
  }

  -- they are at rest
  pub empty_rests : IsAtRest (new_loaded 0) (files Jdt) files
  empty_rests = record {
    holds = record { loads = empty_loads; texts_are = refl };
    plain = record {
      long = let size = ap (λ (l : List ℕ). length l) is.journal in omega (arith, size);
      two = two;
      shut = λ gate.
          let first : slice_index (files Jnl) 0 ≡ 0 = ap (λ (l : List ℕ). slice_index l 0) is.journal in
          let number : version_number (version_of files) ≡ 2 = ap version_number two in
          omega (arith, first, number, gate);
    };
  }
    where
      two : version_of files ≡ Two
      two = ap (λ (l : List ℕ). version_by (slice_index l 1)) is.journal

-- it has no texts
pub empty_texts : (contents : Option Files) → ForSome contents IsEmptyBase → AreTexts (new_loaded 0) [] contents
empty_texts contents made = record { sized = refl; told = λ files there. (made files there).texts }

-- a file written over as a whole
whole_overwritten : (bytes old : List ℕ) → length old ≡ length bytes → overwritten 0 bytes old ≡ bytes
unfolding overwritten
whole_overwritten bytes old size = same_lists _ _ (grind (arith, places)) (λ k d h. grind (arith, places))

-- a file of another length that is written over as a whole
pub told_whole : (f : FileId) (bytes : List ℕ) (len : ℕ) (o mid after : Option Files) → length bytes ≡ len → Turns (InFile f (IsResized len)) o mid → after ≡ option_map (written f 0 bytes) mid
    → after ≡ option_map (with_file f bytes) o
told_whole f bytes len None None after size turns told = told
told_whole f bytes len None (Some now) after size turns told = absurd turns
told_whole f bytes len (Some was) None after size turns told = absurd turns
told_whole f bytes len (Some was) (Some now) after size turns told = told ∙ ap Some (same_files _ _ (λ g. elim (same_file g f) [
  | inl same ↦ subst (λ (h : FileId). written f 0 bytes now h ≡ with_file f bytes was h) (sym same)
      (with_file-here f _ now ∙ whole_overwritten bytes (now f) (turns.here.size ∙ sym size) ∙ sym (with_file-here f bytes was))
  | inr other ↦ with_file-other f g _ now other ∙ turns.others g other ∙ sym (with_file-other f g bytes was other)
]))

-- the one file is what was written, and the others are as they were
pub synced_header : (bytes : List ℕ) (old last new : Device) → last.contents ≡ option_map (with_file Jhr bytes) old.contents → new.contents ≡ last.contents
    → ForSome last.contents (λ files. new.moments ≡ and_then (with_image Jhr (λ _. just_synced (files Jhr))) last.moments)
    → ((start : Files) → Keeps (AgreeButHeaders start) old new) → IsAllSynced old → IsAllSynced new
synced_header bytes old last new told kept done keeps synced = λ final there.
    let at_last = sym kept ∙ there in
    let back = told_back old.contents last.contents (with_file Jhr bytes) final told at_last in
    let start = back.0 in
    let shows = (keeps start).shows (record {
      read = λ files here. (let same : start ≡ files = one_told (sym back.1 ∙ here) in subst (AgreeButHeaders start) same (λ file other. refl));
      left = left_as start old.moments (synced start back.1);
    }) in
    leaves_both (AgreeButHeaders start) (λ left. left Jhr ≡ final Jhr) (λ left. left ≡ final) new.moments
    (λ left others here. same_files left final (λ file. elim (same_file file Jhr) [
      | inl same ↦ subst (λ (f : FileId). left f ≡ final f) (sym same) here
      | inr other ↦ others file other ∙ sym (ap (λ (x : Files). x file) back.2 ∙ with_file-other Jhr file bytes start other)
    ])) shows.left (durable Jhr final last new at_last done)
  where
    one_told : {a b : Files} → Some a ≡ Some b → a ≡ b
    one_told same = cc

    left_as : (start : Files) (moments : List Images) → LeavesNow (λ left. left ≡ start) moments → LeavesNow (AgreeButHeaders start) moments
    left_as start [] all = tt
    left_as start (now ∷ earlier) all = λ files image. (λ file other. ap (λ (x : Files). x file) (all files image))

    leaves_both : (P Q R : Files → Type 0) (moments : List Images) → ((files : Files) → P files → Q files → R files) → LeavesNow P moments → LeavesNow Q moments → LeavesNow R moments
    leaves_both P Q R [] both p q = tt
    leaves_both P Q R (now ∷ earlier) both p q = λ files image. both files (p files image) (q files image)

-- behind the header that was written the gate is closed
pub header_shut : (o mid : Option Files) → ForSome o HaveNoByte → mid ≡ option_map (with_file Jhr (fixed_header_bytes empty_header)) o → ForSome mid (λ files. IsGateOpen files → ⊥)
header_shut o mid empty told = λ files there is_open.
    let back = told_back o mid (with_file Jhr (fixed_header_bytes empty_header)) files told there in
    let none : files Jnl ≡ [] = ap (λ (x : Files). x Jnl) back.2 ∙ with_file-other Jhr Jnl (fixed_header_bytes empty_header) back.0 (λ is. cc) ∙ empty back.0 back.1 Jnl in
    let size : length (files Jnl) ≡ 0 = ap (λ (l : List ℕ). length l) none in
    let longer = is_open.longer in
    omega (arith, size, longer)

-- the base is made
pub base_made : (o mid after : Option Files) → ForSome o HaveNoByte → mid ≡ option_map (with_file Jhr (fixed_header_bytes empty_header)) o → Turns IsPrepared mid after → ForSome after IsEmptyBase
base_made o None None empty told turns = λ files there. absurd (cc)
base_made o None (Some now) empty told turns = absurd turns
base_made o (Some was) None empty told turns = λ files there. absurd (cc)
base_made o (Some was) (Some now) empty told turns = λ files there.
    let same : now ≡ files = cc in
    let back = told_back o (Some was) (with_file Jhr (fixed_header_bytes empty_header)) was told refl in
    let none = empty back.0 back.1 in
    let other : (file : FileId) → file ≢ Jhr → was file ≡ [] = λ file ne. ap (λ (x : Files). x file) back.2 ∙ with_file-other Jhr file _ back.0 ne ∙ none file in
    let here : was Jhr ≡ fixed_header_bytes empty_header = ap (λ (x : Files). x Jhr) back.2 ∙ with_file-here Jhr _ back.0 in
    let short = ap (λ (l : List ℕ). length l) (other Jnl (λ is. cc)) in
    subst IsEmptyBase same (record {
      headers = turns.same Jhr (λ is. cc) ∙ here;
      texts = turns.same Jdt (λ is. cc) ∙ other Jdt (λ is. cc);
      index = turns.same Jdx (λ is. cc) ∙ other Jdx (λ is. cc);
      marks = turns.same Jlr (λ is. cc) ∙ other Jlr (λ is. cc);
      journal = turns.made (inr (omega (arith, short)));
    })
