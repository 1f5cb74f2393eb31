-- What a window holds, after a look and after a read.
use Rattle.std.proofs.Common.{◌≡◌, ℕ, ◌+◌, ◌-◌, ◌≤◌, List, [], length, take, drop, ap, sym, ◌∙◌, subst, refl, arith, Option}
use Rattle.std.proofs.lemmas.List.{take-take, drop-take, drop-drop}
use Rattle.jb_disk.specs.Files.{Files}
use Rattle.jb_disk.specs.declared.file.FileId.{FileId}
use Rattle.jb_image.specs.declared.window.Window.{Window}
use Rattle.jb_image.specs.Places.{bytes_at}
use Rattle.jb_image.specs.Windows.{WindowCovers, IsWindowOn, ShowsIn, seen_at}

-- a part of a part of a file is a part of the file
part_of : (at len begin n : ℕ) (file held : List ℕ) → begin ≤ at → at + len ≤ begin + n → held ≡ bytes_at begin n file
    → bytes_at (at - begin) len held ≡ bytes_at at len file
part_of at len begin n file held from to is =
    let k : ℕ = at - begin in
    let rest : ℕ = n - k in
    let whole : n ≡ k + rest = omega arith in
    let place : begin + k ≡ at = omega arith in
    let cut : drop k held ≡ take rest (drop k (drop begin file)) =
    ap (λ (l : List ℕ). drop k l) is ∙ ap (λ (m : ℕ). drop k (take m (drop begin file))) whole ∙ drop-take k rest (drop begin file) in
    ap (λ (l : List ℕ). take len l) cut ∙ take-take len rest (drop k (drop begin file)) (omega arith)
    ∙ ap (λ (l : List ℕ). take len l) (drop-drop k begin file) ∙ ap (λ (m : ℕ). take len (drop m file)) place

-- what a window holds is what the file has
pub seen_shown : (files : Files) (window : Window) (at len : ℕ) → ShowsIn window files → WindowCovers at len window
    → seen_at at len window ≡ bytes_at at len (files window.file)
unfolding seen_at
seen_shown files window at len shows covers =
    part_of at len window.at (length window.bytes.items) (files window.file) window.bytes.items covers.from covers.to shows.bytes

-- a window that holds the same at the same place
pub window_same : (file : FileId) (len : ℕ) (contents later : Option Files) (old new : Window) → later ≡ contents → new.file ≡ old.file
    → new.file_len ≡ old.file_len → new.at ≡ old.at → new.bytes.items ≡ old.bytes.items → IsWindowOn file len contents old → IsWindowOn file len later new
window_same file len contents later old new later_is file_is len_is at_is items_is on = record {
  file_is = file_is ∙ on.file_is;
  len_is = len_is ∙ on.len_is;
  shows = λ files contents_is.
      let shows = on.shows files (sym later_is ∙ contents_is) in
      let size = shows.size in
      let bytes = shows.bytes in
      record { size = cc; bytes = cc };
}

-- a window that holds nothing
pub window_empty : (file : FileId) (len : ℕ) (contents later : Option Files) (old new : Window) → later ≡ contents → new.file ≡ old.file
    → new.file_len ≡ old.file_len → new.bytes.items ≡ [] → IsWindowOn file len contents old → IsWindowOn file len later new
window_empty file len contents later old new later_is file_is len_is none on = record {
  file_is = file_is ∙ on.file_is;
  len_is = len_is ∙ on.len_is;
  shows = λ files contents_is.
      let shows = on.shows files (sym later_is ∙ contents_is) in
      let size = shows.size in
      record { size = cc; bytes = subst (λ (l : List ℕ). l ≡ bytes_at new.at (length l) (files new.file)) (sym none) refl };
}

-- a read of something else leaves a window true
pub window_kept : (file : FileId) (len : ℕ) (contents later : Option Files) (window : Window) → later ≡ contents
    → IsWindowOn file len contents window → IsWindowOn file len later window
window_kept file len contents later window is on = subst (λ (c : Option Files). IsWindowOn file len c window) (sym is) on
