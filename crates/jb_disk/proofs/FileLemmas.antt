-- Bytes of a file that are written over, and what a disk tells of its files or a crash leaves of them.
use Rattle.std.proofs.Common.{◌≡◌, ℕ, ◌+◌, ◌<◌, ◌≤◌, List, [], ◌∷◌, ◌++◌, length, take, get_or, ◌∙◌, sym, subst, arith, Option, Some}
use Rattle.std.specs.Prelude.{slice_index}
use Rattle.std.specs.Option.{ForSome}
use Rattle.std.proofs.lemmas.List.{same_lists, places, get_or_default}
use Rattle.jb_disk.specs.Files.{Files, overwritten}
use Rattle.jb_disk.specs.Images.{Images}
use Rattle.jb_disk.specs.Runs.{LeavesNow}

-- what a crash leaves has two properties, and so a third
pub leaves_both : (P Q R : Files → Type 0) (moments : List Images) → ((files : Files) → P files → Q files → R files) → LeavesNow P moments → LeavesNow Q moments → LeavesNow R moments
leaves_both P Q R [] both p q = tt
leaves_both P Q R (now ∷ earlier) both p q = λ files image. both files (p files image) (q files image)

-- what a crash leaves has a weaker property
pub leaves_map : (P Q : Files → Type 0) (moments : List Images) → ((files : Files) → P files → Q files) → LeavesNow P moments → LeavesNow Q moments
leaves_map P Q [] weaker all = tt
leaves_map P Q (now ∷ earlier) weaker all = λ files image. weaker files (all files image)

-- what is told is one thing
pub only_told : (o : Option Files) (files : Files) (P : Files → Type 0) → o ≡ Some files → P files → ForSome o P
only_told o files P is here = λ other there.
    let same : files ≡ other = cc in
    subst P same here

-- the same first bytes
pub take_same : (at : ℕ) (old new : List ℕ) → at ≤ length old → at ≤ length new → ((i : ℕ) → i < at → slice_index new i ≡ slice_index old i) → take at new ≡ take at old
take_same at old new low high same = same_lists _ _ (grind (arith, places)) (λ k d inside.
    let short : k < at = grind (arith, places) in
    let a : get_or (take at new) k d ≡ get_or new k d = grind (arith, places) in
    let b : get_or (take at old) k d ≡ get_or old k d = grind (arith, places) in
    a ∙ get_or_default new k d 0 (omega arith) ∙ same k short ∙ get_or_default old k 0 d (omega arith) ∙ sym b)

-- the end of a file written anew
pub written_end : (at : ℕ) (bytes new : List ℕ) → length new ≡ at + length bytes → overwritten at bytes new ≡ take at new ++ bytes
unfolding overwritten
written_end at bytes new size = same_lists _ _ (grind (arith, places)) (λ k d h. grind (arith, places))

-- two writes one behind the other are one
pub overwritten-append : (at : ℕ) (front back old : List ℕ) → at + length front + length back ≤ length old
    → overwritten (at + length front) back (overwritten at front old) ≡ overwritten at (front ++ back) old
unfolding overwritten
overwritten-append at front back old within = same_lists _ _ (grind (arith, places)) (λ k d h. grind (arith, places))

-- nothing is written
pub overwritten-nil : (at : ℕ) (old : List ℕ) → overwritten at [] old ≡ old
unfolding overwritten
overwritten-nil at old = same_lists _ _ (grind (arith, places)) (λ k d h. grind (arith, places))
