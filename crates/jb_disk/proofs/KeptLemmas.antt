-- What stands in the buffer stays as more is put behind it.
use Rattle.std.proofs.Common.{◌≡◌, ℕ, ◌+◌, ◌^◌, ◌<◌, ◌≤◌, List, [], ◌∷◌, ◌++◌, length, map, refl, ◌∙◌, ap, arith, true, false, Bool, length-append}
use Rattle.std.specs.Prelude.{All, slice_range, sum_by, if◌then◌else◌}
use Rattle.std.proofs.lemmas.List.{places, same_lists, map-append}
use Rattle.std.proofs.lemmas.List.Sums.{sum_by-cons, sum_by_push}
use Rattle.std.proofs.lemmas.List.Elements.{All-head, All-tail, All-cons, All-append, All-nil}
use Rattle.jb_disk.specs.declared.file.FileId.{FileId}
use Rattle.jb_disk.specs.declared.piece.Piece.{Piece}
use Rattle.jb_disk.specs.declared.piece.Piece.TheVariants.{Bytes, Copy}
use Rattle.jb_disk.specs.declared.redo.Kept.{Kept}
use Rattle.jb_disk.specs.RedoView.{bytes_of, held_by}
use Rattle.jb_disk.specs.Kept.{piece_of, KeptFits, kept_size}

-- a range stays where more is put behind
pub range-append : (xs ys : List ℕ) (i j : ℕ) → j ≤ length xs → slice_range (xs ++ ys) i j ≡ slice_range xs i j
range-append xs ys i j low = same_lists _ _ (grind (arith, places)) (λ k d h. grind (arith, places))

-- what was put behind is a range
pub range-all : (xs ys : List ℕ) (j : ℕ) → j ≡ length xs + length ys → slice_range (xs ++ ys) (length xs) j ≡ ys
range-all xs ys j is = same_lists _ _ (grind (arith, places)) (λ k d h. grind (arith, places))

-- a range within has its length
pub length-range : (xs : List ℕ) (i n : ℕ) → i + n ≤ length xs → length (slice_range xs i (i + n)) ≡ n
length-range xs i n low = grind (arith, places)

-- a piece is the same in a longer buffer
same_at : (b : Bool) (from to : FileId) (from_at to_at len start : ℕ) (xs ys : List ℕ) → start + (if b then 0 else len) ≤ length xs
    → (if b then Copy from from_at to to_at len else Bytes to to_at (slice_range (xs ++ ys) start (start + len))) ≡ (if b then Copy from from_at to to_at len else Bytes to to_at (slice_range xs start (start + len)))
same_at true from to from_at to_at len start xs ys within = refl
same_at false from to from_at to_at len start xs ys within = ap (Bytes to to_at) (range-append xs ys start (start + len) within)

-- so is a piece that is kept
same_piece : (buffer more : List ℕ) (kept : Kept) → KeptFits buffer kept → piece_of (buffer ++ more) kept ≡ piece_of buffer kept
same_piece buffer more kept fits = same_at kept.head.copy kept.head.from kept.head.to kept.head.from_at kept.head.to_at kept.head.len kept.start buffer more fits.within

-- so are all of them
pub map-piece_of-append : (buffer more : List ℕ) (kept : List Kept) → All (KeptFits buffer) kept → map (piece_of (buffer ++ more)) kept ≡ map (piece_of buffer) kept
map-piece_of-append buffer more [] fits = refl
map-piece_of-append buffer more (k ∷ kept) fits =
    let first = same_piece buffer more k (All-head (KeptFits buffer) k kept fits) in
    let rest = map-piece_of-append buffer more kept (All-tail (KeptFits buffer) k kept fits) in
    λ i. first i ∷ rest i

-- and they fit
pub fits-append : (buffer more : List ℕ) (kept : List Kept) → All (KeptFits buffer) kept → All (KeptFits (buffer ++ more)) kept
fits-append buffer more kept fits = λ k d low.
    let was = fits k d low in
    let within = was.within in
    record { within = grind (arith, places); placed = was.placed; plain = was.plain }

-- the bytes of a piece in the buffer
size_at : (b : Bool) (from to : FileId) (from_at to_at len start : ℕ) (xs : List ℕ) → start + (if b then 0 else len) ≤ length xs
    → length (bytes_of (if b then Copy from from_at to to_at len else Bytes to to_at (slice_range xs start (start + len)))) ≡ (if b then 0 else len)
size_at true from to from_at to_at len start xs within = refl
size_at false from to from_at to_at len start xs within = length-range xs start len within

-- so many bytes a kept piece brings
pub size-piece : (buffer : List ℕ) (kept : Kept) → KeptFits buffer kept → length (bytes_of (piece_of buffer kept)) ≡ kept_size kept
size-piece buffer kept fits = size_at kept.head.copy kept.head.from kept.head.to kept.head.from_at kept.head.to_at kept.head.len kept.start buffer fits.within

-- all pieces together
pub sizes : (buffer : List ℕ) (kept : List Kept) → All (KeptFits buffer) kept → held_by (map (piece_of buffer) kept) ≡ sum_by kept_size kept
sizes buffer [] fits = refl
sizes buffer (k ∷ kept) fits =
    omega (arith, sum_by-cons (λ piece. length (bytes_of piece)) (piece_of buffer k) (map (piece_of buffer) kept), sum_by-cons kept_size k kept, size-piece buffer k (All-head (KeptFits buffer) k kept fits), sizes buffer kept (All-tail (KeptFits buffer) k kept fits))

-- a piece with its bytes, as it is kept
abbrev pub written_kept : FileId → ℕ → ℕ → ℕ → Kept
written_kept file at len start = record { head = record { copy = false; from = file; from_at = 0; to = file; to_at = at; len = len }; start = start }

module _ (buffer bytes : List ℕ) (kept : List Kept) (file : FileId) (at len start : ℕ) (starts : start ≡ length buffer) (long : len ≡ length bytes) (fits : All (KeptFits buffer) kept) where
  -- the piece that is put
  abbrev new : Kept
  new = written_kept file at len start

  -- it fits with the others
  pub put-fits : at + length bytes < 2 ^ 63 → All (KeptFits (buffer ++ bytes)) (kept ++ new ∷ [])
  put-fits low =
      let last : KeptFits (buffer ++ bytes) new = record {
        within = omega (arith, starts, long, length-append buffer bytes);
        placed = record { source = omega (arith, long); target = omega (arith, long) };
        plain = λ _. (refl, refl);
      } in
      All-append (KeptFits (buffer ++ bytes)) kept (new ∷ []) (fits-append buffer bytes kept fits) (All-cons (KeptFits (buffer ++ bytes)) new [] last (All-nil (KeptFits (buffer ++ bytes))))

  -- the pieces are the others and it
  pub put-map : map (piece_of (buffer ++ bytes)) (kept ++ new ∷ []) ≡ map (piece_of buffer) kept ++ Bytes file at bytes ∷ []
  put-map =
      let range : slice_range (buffer ++ bytes) start (start + len) ≡ bytes = ap (λ (n : ℕ). slice_range (buffer ++ bytes) n (start + len)) starts ∙ range-all buffer bytes (start + len) (omega (arith, starts, long)) in
      map-append (piece_of (buffer ++ bytes)) kept (new ∷ []) ∙ ap (λ (l : List Piece). l ++ Bytes file at (slice_range (buffer ++ bytes) start (start + len)) ∷ []) (map-piece_of-append buffer bytes kept fits)
      ∙ ap (λ (l : List ℕ). map (piece_of buffer) kept ++ Bytes file at l ∷ []) range

  -- and they fill the buffer
  pub put-total : sum_by kept_size kept ≡ length buffer → sum_by kept_size (kept ++ new ∷ []) ≡ length (buffer ++ bytes)
  put-total total = omega (arith, sum_by_push kept_size kept new, total, long, length-append buffer bytes)

-- true is not false
not_false : true ≡ false → ⊥
not_false is = cc

-- a piece that is copied from a file, as it is kept
abbrev pub copied_kept : FileId → ℕ → FileId → ℕ → ℕ → ℕ → Kept
copied_kept from from_at to to_at len start = record { head = record { copy = true; from = from; from_at = from_at; to = to; to_at = to_at; len = len }; start = start }

module _ (buffer : List ℕ) (kept : List Kept) (from : FileId) (from_at : ℕ) (to : FileId) (to_at len start : ℕ) (starts : start ≡ length buffer) (fits : All (KeptFits buffer) kept) where
  -- the piece that is put
  abbrev copied : Kept
  copied = copied_kept from from_at to to_at len start

  -- it fits with the others
  pub copy-fits : from_at + len < 2 ^ 63 → to_at + len < 2 ^ 63 → All (KeptFits buffer) (kept ++ copied ∷ [])
  copy-fits source target =
      let last : KeptFits buffer copied = record { within = omega (arith, starts); placed = record { source = source; target = target }; plain = λ is. absurd (not_false is) } in
      All-append (KeptFits buffer) kept (copied ∷ []) fits (All-cons (KeptFits buffer) copied [] last (All-nil (KeptFits buffer)))

  -- the pieces are the others and it
  pub copy-map : map (piece_of buffer) (kept ++ copied ∷ []) ≡ map (piece_of buffer) kept ++ Copy from from_at to to_at len ∷ []
  copy-map = map-append (piece_of buffer) kept (copied ∷ [])

  -- and they fill the buffer as before
  pub copy-total : sum_by kept_size kept ≡ length buffer → sum_by kept_size (kept ++ copied ∷ []) ≡ length buffer
  copy-total total = omega (arith, sum_by_push kept_size kept copied, total)
