-- An image after a call is an image before it with one file changed.
use Rattle.std.proofs.Common.{◌≡◌, ◌≢◌, ◌⊎◌, inl, inr, ℕ, ◌+◌, ◌<◌, ◌≤◌, List, [], ◌∷◌, length, map, sym, ◌∙◌, subst, arith}
use Rattle.std.specs.Prelude.{◌-◌, min, max, slice_index, if◌then◌else◌, ◌&&◌, nat_le, nat_lt}
use Rattle.std.specs.List.{range_with_len}
use Rattle.std.proofs.lemmas.Bool.{cases_lt}
use Rattle.std.proofs.lemmas.Bool.Decides.{nat_tests}
use Rattle.std.proofs.lemmas.List.{same_lists, places, get_or_default, get_or_past, length-map}
use Rattle.std.proofs.lemmas.List.FromFn.{get_or-map-range_with_len, length-range_with_len}
use Rattle.jb_disk.specs.declared.file.FileId.{FileId}
use Rattle.jb_disk.specs.Files.{Files, with_file, overwritten, InFile, IsResized}
use Rattle.jb_disk.specs.Images.{Unsynced, Images, IsWritten, IsLeft, IsImage, just_synced, torn, cut, with_image}
use Rattle.jb_disk.specs.Steps.{Torn, Cut, IsOpen, AgreesBut, Span, IsCovered, AreWithin, patched}
use Rattle.jb_disk.specs.FileLaws.{same_file, with_file-here, with_file-other, length-overwritten}
use Rattle.jb_disk.specs.ImageLaws.{with_image-here, with_image-other, get-before, get-behind}

-- a list by its length and a function
tabulated : ℕ → (ℕ → ℕ) → List ℕ
tabulated n f = map f (range_with_len 0 n)

-- its length
length-tabulated : (n : ℕ) (f : ℕ → ℕ) → length (tabulated n f) ≡ n
unfolding tabulated
length-tabulated n f = length-map (range_with_len 0 n) f ∙ length-range_with_len 0 n

-- its items
get-tabulated : (n : ℕ) (f : ℕ → ℕ) (i : ℕ) → i < n → slice_index (tabulated n f) i ≡ f i
unfolding tabulated
get-tabulated n f i low = get_or-map-range_with_len f 0 n i i 0 low (omega arith)

-- two lists of one length with the same items
same_items : (one other : List ℕ) → length one ≡ length other → ((i : ℕ) → i < length one → slice_index one i ≡ slice_index other i) → one ≡ other
same_items one other size same = same_lists one other size (λ k d low. get_or_default one k d 0 low ∙ same k low ∙ get_or_default other k 0 d (omega (arith, size)))

-- a file just synced is left as it is
pub is-synced : (bytes left : List ℕ) → IsLeft (just_synced bytes) left → left ≡ bytes
is-synced bytes left is =
    let a = is.no_shorter in
    let b = is.no_longer in
    let size : length left ≡ length bytes = omega arith in
    same_items left bytes size (λ i low. elim (is.same i (omega arith)) [ inl none ↦ absurd none | inr same ↦ same ])

-- the file before a write: as synced in the range, as now elsewhere
before_write : Unsynced → ℕ → ℕ → List ℕ → List ℕ
before_write u at len now = tabulated (length now) (λ i. if nat_le at i && nat_lt i (at + len) then slice_index u.synced i else slice_index now i)

-- its length
length-before_write : (u : Unsynced) (at len : ℕ) (now : List ℕ) → length (before_write u at len now) ≡ length now
unfolding before_write
length-before_write u at len now = length-tabulated (length now) _

-- in the range
inside-write : (u : Unsynced) (at len : ℕ) (now : List ℕ) (i : ℕ) → i < length now → at ≤ i → i < at + len → slice_index (before_write u at len now) i ≡ slice_index u.synced i
unfolding before_write
inside-write u at len now i low over under = get-tabulated (length now) _ i low ∙ grind (arith, nat_tests)

-- below it
below-write : (u : Unsynced) (at len : ℕ) (now : List ℕ) (i : ℕ) → i < at → slice_index (before_write u at len now) i ≡ slice_index now i
unfolding before_write
below-write u at len now i under = elim (cases_lt i (length now)) [
  | inl low ↦ get-tabulated (length now) _ i low ∙ grind (arith, nat_tests)
  | inr past ↦ get_or_past (before_write u at len now) i 0 (omega (arith, length-before_write u at len now)) ∙ sym (get_or_past now i 0 past)
]

-- above it
above-write : (u : Unsynced) (at len : ℕ) (now : List ℕ) (i : ℕ) → at + len ≤ i → slice_index (before_write u at len now) i ≡ slice_index now i
unfolding before_write
above-write u at len now i over = elim (cases_lt i (length now)) [
  | inl low ↦ get-tabulated (length now) _ i low ∙ grind (arith, nat_tests)
  | inr past ↦ get_or_past (before_write u at len now) i 0 (omega (arith, length-before_write u at len now)) ∙ sym (get_or_past now i 0 past)
]

-- what is left now is torn from it
torn-back : (u : Unsynced) (at len : ℕ) (now : List ℕ) → Torn at len (before_write u at len now) now
torn-back u at len now = record {
  size = sym (length-before_write u at len now);
  below = λ i under. sym (below-write u at len now i under);
  above = λ i over. sym (above-write u at len now i over);
}

-- a place outside the range
outside-write : (u : Unsynced) (at len : ℕ) (now : List ℕ) → IsLeft (torn at len u) now → (i : ℕ) → i < u.least → slice_index (before_write u at len now) i ≡ slice_index now i
    → (at ≤ i → i < at + len → ⊥) → IsWritten u.ranges i ⊎ (slice_index (before_write u at len now) i ≡ slice_index u.synced i)
outside-write u at len now left i low is apart = elim (left.same i low) [
  | inl there ↦ elim there [ inl here ↦ absurd (apart here.0 here.1) | inr before ↦ inl before ]
  | inr same ↦ inr (is ∙ same)
]

-- and it may be left before the write
left-before_write : (u : Unsynced) (at len : ℕ) (now : List ℕ) → IsLeft (torn at len u) now → IsLeft u (before_write u at len now)
left-before_write u at len now left =
    let size = length-before_write u at len now in
    let a = left.no_shorter in
    let b = left.no_longer in
    record {
      no_shorter = omega (arith, size);
      no_longer = omega (arith, size);
      same = λ i low. elim (cases_lt i at) [
        | inl under ↦ outside-write u at len now left i low (below-write u at len now i under) (λ from to. omega (arith, from, under))
        | inr over ↦ elim (cases_lt i (at + len)) [
          | inl inside ↦ inr (inside-write u at len now i (omega arith) over inside)
          | inr past ↦ outside-write u at len now left i low (above-write u at len now i past) (λ from to. omega (arith, to, past))
        ]
      ];
    }

-- the file before a change of its length: as now below the new length, as synced from there on
before_cut : Unsynced → ℕ → List ℕ → List ℕ
before_cut u len now = tabulated (max u.least (min (length now) u.greatest)) (λ i. if nat_lt i len then slice_index now i else slice_index u.synced i)

-- its length
length-before_cut : (u : Unsynced) (len : ℕ) (now : List ℕ) → length (before_cut u len now) ≡ max u.least (min (length now) u.greatest)
unfolding before_cut
length-before_cut u len now = length-tabulated (max u.least (min (length now) u.greatest)) _

-- below the new length
below-cut : (u : Unsynced) (len : ℕ) (now : List ℕ) (i : ℕ) → i < max u.least (min (length now) u.greatest) → i < len → slice_index (before_cut u len now) i ≡ slice_index now i
unfolding before_cut
below-cut u len now i low under = get-tabulated (max u.least (min (length now) u.greatest)) _ i low ∙ grind (arith, nat_tests)

-- from the new length on
above-cut : (u : Unsynced) (len : ℕ) (now : List ℕ) (i : ℕ) → i < max u.least (min (length now) u.greatest) → len ≤ i → slice_index (before_cut u len now) i ≡ slice_index u.synced i
unfolding before_cut
above-cut u len now i low over = get-tabulated (max u.least (min (length now) u.greatest)) _ i low ∙ grind (arith, nat_tests)

-- what is left now is cut from it
cut-back : (u : Unsynced) (len : ℕ) (now : List ℕ) → u.least ≤ u.greatest → min u.least len ≤ length now → length now ≤ max u.greatest len → Cut len (before_cut u len now) now
cut-back u len now between shorter longer =
    let size = length-before_cut u len now in
    record {
      no_shorter = omega (arith, size);
      no_longer = omega (arith, size);
      below = λ i low under. sym (below-cut u len now i (omega (arith, size)) under);
    }

-- and it may be left before the change
left-before_cut : (u : Unsynced) (len : ℕ) (now : List ℕ) → u.least ≤ u.greatest → IsLeft (cut len u) now → IsLeft u (before_cut u len now)
left-before_cut u len now between left =
    let size = length-before_cut u len now in
    let a = left.no_shorter in
    let b = left.no_longer in
    record {
      no_shorter = omega (arith, size);
      no_longer = omega (arith, size);
      same = λ i low. elim (cases_lt i len) [
        | inl under ↦ elim (left.same i (omega arith)) [
          | inl there ↦ inl there
          | inr same ↦ inr (below-cut u len now i (omega arith) under ∙ same)
        ]
        | inr over ↦ inr (above-cut u len now i (omega arith) over)
      ];
    }

-- one file of an image as it was before
module _ (f : FileId) (change : Unsynced → Unsynced) (images : Images) (files : Files) (image : IsImage (with_image f change images) files) where
  -- the file's own image
  pub image-here : IsLeft (change (images f)) (files f)
  image-here = subst (λ (u : Unsynced). IsLeft u (files f)) (with_image-here f change images) (image f)

  -- the others are as they were
  pub image-other : (g : FileId) → g ≢ f → IsLeft (images g) (files g)
  image-other g other = subst (λ (u : Unsynced). IsLeft u (files g)) (with_image-other f g change images other) (image g)

  -- with that file as it was, the files are an image before
  pub image-back : (bytes : List ℕ) → IsLeft (images f) bytes → IsImage images (with_file f bytes files)
  image-back bytes left g = elim (same_file g f) [
    | inl same ↦ subst (λ (h : FileId). IsLeft (images h) (with_file f bytes files h)) (sym same) (subst (IsLeft (images f)) (sym (with_file-here f bytes files)) left)
    | inr other ↦ subst (IsLeft (images g)) (sym (with_file-other f g bytes files other)) (image-other g other)
  ]

-- a file put back, and changed to what it is now
changed-back : (f : FileId) (bytes : List ℕ) (files : Files) (change : List ℕ → List ℕ → Type 0) → change bytes (files f) → InFile f change (with_file f bytes files) files
changed-back f bytes files change changed = record {
  here = subst (λ (l : List ℕ). change l (files f)) (sym (with_file-here f bytes files)) changed;
  others = λ g other. sym (with_file-other f g bytes files other);
}

-- an image after a write is one before it with the range changed
pub image-before_write : (f : FileId) (at len : ℕ) (images : Images) (files : Files) → IsImage (with_image f (torn at len) images) files
    → (before : Files) × IsImage images before × InFile f (Torn at len) before files
image-before_write f at len images files image =
    let was = before_write (images f) at len (files f) in (
      with_file f was files,
      image-back f (torn at len) images files image was (left-before_write (images f) at len (files f) (image-here f (torn at len) images files image)),
      changed-back f was files (Torn at len) (torn-back (images f) at len (files f)),
    )

-- an image after a change of length is one before it, cut or grown
pub image-before_cut : (f : FileId) (len : ℕ) (images : Images) (files : Files) → (images f).least ≤ (images f).greatest → IsImage (with_image f (cut len) images) files
    → (before : Files) × IsImage images before × InFile f (Cut len) before files
image-before_cut f len images files between image =
    let here = image-here f (cut len) images files image in
    let was = before_cut (images f) len (files f) in (
      with_file f was files,
      image-back f (cut len) images files image was (left-before_cut (images f) len (files f) between here),
      changed-back f was files (Cut len) (cut-back (images f) len (files f) between here.no_shorter here.no_longer),
    )

-- after a sync the file is what was read
pub image-synced : (f : FileId) (contents : Files) (images : Images) (files : Files) → IsImage (with_image f (λ _. just_synced (contents f)) images) files → files f ≡ contents f
image-synced f contents images files image = is-synced (contents f) (files f) (image-here f (λ _. just_synced (contents f)) images files image)

-- an image after a sync is one before it
pub image-before_sync : (f : FileId) (contents : Files) (images : Images) (files : Files) → IsImage images contents → IsImage (with_image f (λ _. just_synced (contents f)) images) files → IsImage images files
image-before_sync f contents images files read image g = elim (same_file g f) [
  | inl same ↦ subst (λ (h : FileId). IsLeft (images h) (files h)) (sym same) (subst (IsLeft (images f)) (sym (image-synced f contents images files image)) (read f))
  | inr other ↦ image-other f (λ _. just_synced (contents f)) images files image g other
]

-- two images of a file, made the same length, agree but where a crash leaves bytes open
pub agree-resized : (u : Unsynced) (len : ℕ) (one other one_now other_now : List ℕ) → IsLeft u one → IsLeft u other → IsResized len one one_now → IsResized len other other_now → AgreesBut (IsOpen u) one_now other_now
agree-resized u len one other one_now other_now one_left other_left one_is other_is =
    let a = one_left.no_shorter in
    let b = other_left.no_shorter in
    record {
      size = one_is.size ∙ sym other_is.size;
      same = λ i low. elim (cases_lt i u.least) [
        | inr past ↦ inl (inr past)
        | inl under ↦ elim (one_left.same i under) [
          | inl there ↦ inl (inl there)
          | inr one_same ↦ elim (other_left.same i under) [
            | inl there ↦ inl (inl there)
            | inr other_same ↦
                let short : i < len = omega (arith, low, one_is.size) in
                inr (one_is.same i (omega arith) short ∙ one_same ∙ sym other_same ∙ sym (other_is.same i (omega arith) short))
          ]
        ]
      ];
    }

-- a place in a write
pub get-inside : (at : ℕ) (bytes old : List ℕ) → at + length bytes ≤ length old → (i j : ℕ) → i ≡ at + j → j < length bytes → slice_index (overwritten at bytes old) i ≡ slice_index bytes j
unfolding overwritten
get-inside at bytes old within i j is low = grind (arith, places)

-- what is written over both agrees
pub agree-overwritten : (places_of : ℕ → Type 0) (at : ℕ) (bytes one other : List ℕ) → at + length bytes ≤ length one → AgreesBut places_of one other
    → AgreesBut (λ i. (i < at ⊎ (at + length bytes ≤ i)) × places_of i) (overwritten at bytes one) (overwritten at bytes other)
agree-overwritten places_of at bytes one other within agrees =
    let both = agrees.size in
    let reaches : at + length bytes ≤ length other = omega (arith, both, within) in
    record {
      size = length-overwritten at bytes one within ∙ both ∙ sym (length-overwritten at bytes other reaches);
      same = λ i low.
          let inside : i < length one = omega (arith, low, length-overwritten at bytes one within) in
          elim (cases_lt i at) [
            | inl under ↦ elim (agrees.same i inside) [
              | inl there ↦ inl (inl under, there)
              | inr same ↦ inr (get-before at bytes one within i under ∙ same ∙ sym (get-before at bytes other reaches i under))
            ]
            | inr over ↦ elim (cases_lt i (at + length bytes)) [
              | inl short ↦ inr (get-inside at bytes one within i (i - at) (omega arith) (omega arith) ∙ sym (get-inside at bytes other reaches i (i - at) (omega arith) (omega arith)))
              | inr past ↦ elim (agrees.same i inside) [
                | inl there ↦ inl (inr past, there)
                | inr same ↦ inr (get-behind at bytes one within i past ∙ same ∙ sym (get-behind at bytes other reaches i past))
              ]
            ]
          ];
    }

-- where every place in which they may differ was written over, the two are one
pub agree-whole : (places_of : ℕ → Type 0) (one other : List ℕ) → AgreesBut places_of one other → ((i : ℕ) → i < length one → places_of i → ⊥) → one ≡ other
agree-whole places_of one other agrees none = same_items one other agrees.size (λ i low. elim (agrees.same i low) [ inl there ↦ absurd (none i low there) | inr same ↦ same ])

-- spans that are written over both make them one, where they cover each place in which the two may differ
pub patched-same : (places_of : ℕ → Type 0) (spans : List Span) (one other : List ℕ) → AreWithin spans (length one) → AgreesBut places_of one other
    → ((i : ℕ) → i < length one → places_of i → IsCovered spans i) → patched spans one ≡ patched spans other
patched-same places_of [] one other within agrees covers = agree-whole places_of one other agrees covers
patched-same places_of (span ∷ spans) one other within agrees covers =
    let size = length-overwritten span.at span.bytes one within.0 in
    let rest : AreWithin spans (length (overwritten span.at span.bytes one)) = subst (AreWithin spans) (sym size) within.1 in
    patched-same (λ i. (i < span.at ⊎ (span.at + length span.bytes ≤ i)) × places_of i) spans (overwritten span.at span.bytes one) (overwritten span.at span.bytes other) rest
    (agree-overwritten places_of span.at span.bytes one other within.0 agrees)
    (λ i low there. elim (covers i (omega (arith, low, size)) there.1) [
      | inl here ↦ elim there.0 [ inl under ↦ absurd (omega (arith, under, here.0)) | inr past ↦ absurd (omega (arith, past, here.1)) ]
      | inr covered ↦ covered
    ])

-- where spans cover each place below the new length that a crash leaves open, each image comes to the same
pub images-patched : (u : Unsynced) (len : ℕ) (spans : List Span) (one other one_now other_now : List ℕ) → IsLeft u one → IsLeft u other → IsResized len one one_now → IsResized len other other_now
    → AreWithin spans len → ((i : ℕ) → i < len → IsOpen u i → IsCovered spans i) → patched spans one_now ≡ patched spans other_now
images-patched u len spans one other one_now other_now one_left other_left one_is other_is within covers =
    patched-same (IsOpen u) spans one_now other_now (subst (AreWithin spans) (sym one_is.size) within) (agree-resized u len one other one_now other_now one_left other_left one_is other_is)
    (λ i low. covers i (omega (arith, low, one_is.size)))
