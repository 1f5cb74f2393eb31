-- A piece that stands in the journal, from its front and what it brings with it.
use Rattle.std.proofs.Common.{◌≡◌, ℕ, ◌+◌, ◌*◌, ◌<◌, ◌≤◌, List, [], ◌∷◌, ◌++◌, length, take, drop, refl, ap, sym, ◌∙◌, subst, arith, append_assoc}
use Rattle.std.proofs.lemmas.List.{length-take-le, length-drop, take-append-drop, length-append, append-nil}
use Rattle.jb_bytes.specs.Number.{number_bytes, number_at}
use Rattle.jb_bytes.proofs.Numbers.{length-number_bytes}
use Rattle.jb_disk.specs.declared.file.FileId.{FileId}
use Rattle.jb_disk.specs.declared.file.FileId.TheVariants.{Jdt, Jnl, Ndt}
use Rattle.jb_disk.specs.declared.piece.Piece.{Piece}
use Rattle.jb_disk.specs.declared.piece.Piece.TheVariants.{Bytes, Copy}
use Rattle.jb_disk.specs.declared.version.Version.{Version}
use Rattle.jb_disk.specs.Files.{Files, file_number}
use Rattle.jb_disk.specs.FileLaws.{number-injective}
use Rattle.jb_redo.specs.declared.part.Front.{Front}
use Rattle.jb_redo.specs.declared.part.Front.TheVariants.{Bytes as GivenFront, Copy as CopyFront}
use Rattle.jb_redo.specs.declared.sizes.Sizes.{Sizes}
use Rattle.jb_redo.specs.Reading.{BeginsWith}
use Rattle.jb_redo.specs.Record.{width_of, piece_bytes}
use Rattle.jb_redo.specs.Rules.{sizes_of, bound_of, IsLegalPiece}
use Rattle.jb_redo.specs.Walk.{size_in, journal_from, front_bytes, front_size, IsLegalFront, given_part_of, copied_part_of, AreFixedSizes, IsPartAt, HasNoPieceAt}
use Rattle.jb_redo.proofs.FieldLemmas.{begins_long, begins_same}
use Rattle.jb_redo.proofs.Spelling.{same_value}
use Rattle.jb_redo.proofs.WalkLemmas.{drop_twice, behind_first}

-- bytes that begin so, and behind that so
pub begins_more : (bytes : List ℕ) (at : ℕ) (first second : List ℕ) → BeginsWith (drop at bytes) first → BeginsWith (drop (at + length first) bytes) second → BeginsWith (drop at bytes) (first ++ second)
begins_more bytes at first second begins more = record {
  behind = more.behind;
  is = begins.is ∙ ap (λ (l : List ℕ). first ++ l) (behind_first (drop at bytes) first begins ∙ drop_twice at (length first) bytes ∙ more.is) ∙ sym (append_assoc first second more.behind);
}

-- and the other way round
pub begins_less : (bytes first second : List ℕ) → BeginsWith bytes (first ++ second) → BeginsWith bytes first
begins_less bytes first second begins = record { behind = second ++ begins.behind; is = begins.is ∙ append_assoc first second begins.behind }

-- what stands behind the first of two
pub begins_behind : (bytes : List ℕ) (at : ℕ) (first second : List ℕ) → BeginsWith (drop at bytes) (first ++ second) → BeginsWith (drop (at + length first) bytes) second
unfolding begins_less
begins_behind bytes at first second begins = record {
  behind = begins.behind;
  is = sym (behind_first (drop at bytes) first (begins_less (drop at bytes) first second begins) ∙ drop_twice at (length first) bytes);
}

-- the front of a piece
abbrev pub front_of : Piece → Front
front_of (Bytes file at bytes) = GivenFront file at (length bytes)
front_of (Copy from from_at to to_at len) = CopyFront to_at len

-- what stands behind its front
abbrev pub rest_of : Version → Piece → List ℕ
rest_of version (Bytes file at bytes) = bytes
rest_of version (Copy from from_at to to_at len) = number_bytes (width_of version) from_at

-- its bytes are both
pub piece_parts : (version : Version) (sizes ends : FileId → ℕ) (piece : Piece) → IsLegalPiece version sizes ends piece → piece_bytes version piece ≡ front_bytes version (front_of piece) ++ rest_of version piece
piece_parts version sizes ends (Bytes file at bytes) legal = refl
piece_parts version sizes ends (Copy from from_at to to_at len) legal =
    λ i. 1 ∷ file_number (legal.texts i) ∷ file_number (legal.shadow i) ∷ 0 ∷ (number_bytes (width_of version) to_at ++ number_bytes (width_of version) len ++ number_bytes (width_of version) from_at)

-- its front keeps the rules
pub front_legal : (version : Version) (sizes ends : FileId → ℕ) (piece : Piece) → IsLegalPiece version sizes ends piece → IsLegalFront version (front_of piece)
front_legal version sizes ends (Bytes file at bytes) legal = (legal.place, legal.size, legal.of_base)
front_legal version sizes ends (Copy from from_at to to_at len) legal = (legal.place, legal.size)

-- two numbers behind four bytes
two_numbers : (version : Version) (a b : ℕ) → length (number_bytes (width_of version) a ++ number_bytes (width_of version) b) ≡ 2 * width_of version
two_numbers version a b =
    omega (arith, length-append (number_bytes (width_of version) a) (number_bytes (width_of version) b), length-number_bytes (width_of version) a, length-number_bytes (width_of version) b)

-- every front has so many bytes
pub front_length : (version : Version) (front : Front) → length (front_bytes version front) ≡ front_size version
front_length version (GivenFront to at len) = omega (arith, two_numbers version at len)
front_length version (CopyFront at len) = omega (arith, two_numbers version at len)

-- its numbers
front_numbers : (version : Version) (at len at' len' : ℕ) → at < bound_of version → len < bound_of version → at' < bound_of version → len' < bound_of version
    → number_bytes (width_of version) at ++ number_bytes (width_of version) len ≡ number_bytes (width_of version) at' ++ number_bytes (width_of version) len' → (at ≡ at') × (len ≡ len')
front_numbers version at len at' len' low short low' short' same =
    let place = same_value version at at' (number_bytes (width_of version) len) (number_bytes (width_of version) len') low low' same in
    let size = same_value version len len' [] [] short short' (append-nil (number_bytes (width_of version) len) ∙ place.1 ∙ sym (append-nil (number_bytes (width_of version) len'))) in
    (place.0, size.0)

module _ (files : Files) (ends : Sizes) (at : ℕ) where
  -- the version of the record
  abbrev version : Version
  version = ends.version

  -- a piece is legal over the files
  abbrev IsFine : Piece → Type 0
  IsFine = IsLegalPiece version (sizes_of files) (size_in ends)

  -- the front of a piece that stands there
  fronted : (piece : Piece) → IsFine piece → BeginsWith (journal_from files at) (piece_bytes version piece) → BeginsWith (journal_from files at) (front_bytes version (front_of piece))
  fronted piece legal begins =
      begins_less (journal_from files at) (front_bytes version (front_of piece)) (rest_of version piece)
      (subst (BeginsWith (journal_from files at)) (piece_parts version (sizes_of files) (size_in ends) piece legal) begins)

  -- too few bytes for a front
  pub no_front : length (journal_from files at) < front_size version → HasNoPieceAt files ends at
  no_front few piece legal begins =
      let long = begins_long (journal_from files at) (front_bytes version (front_of piece)) (fronted piece legal begins) in
      omega (arith, few, front_length version (front_of piece))

  -- the front of the piece that stands there
  pub front_there : (bytes : List ℕ) (piece : Piece) → length bytes ≡ front_size version → BeginsWith (journal_from files at) bytes → IsFine piece
      → BeginsWith (journal_from files at) (piece_bytes version piece) → bytes ≡ front_bytes version (front_of piece)
  front_there bytes piece size read legal begins =
      begins_same (journal_from files at) bytes (front_bytes version (front_of piece)) (size ∙ sym (front_length version (front_of piece))) read (fronted piece legal begins)

  -- bytes that are no front
  pub bad_front : (bytes : List ℕ) → length bytes ≡ front_size version → BeginsWith (journal_from files at) bytes → ((front : Front) → IsLegalFront version front → bytes ≡ front_bytes version front → ⊥)
      → HasNoPieceAt files ends at
  bad_front bytes size read none piece legal begins =
      none (front_of piece) (front_legal version (sizes_of files) (size_in ends) piece legal) (front_there bytes piece size read legal begins)

  -- the piece behind a front of given bytes
  pub given_there : (end : ℕ) (to : FileId) (to_at len : ℕ) → end ≡ length (files Jnl) → file_number to < 4 → to_at < bound_of version → len < bound_of version
      → BeginsWith (journal_from files at) (front_bytes version (GivenFront to to_at len)) → at + front_size version + len ≤ end → to_at + len ≤ size_in ends to
      → IsPartAt files ends at (given_part_of (at + front_size version) to to_at len)
  given_there end to to_at len end_is of_base low short front whole within =
      let from_at = at + front_size version in
      let bytes = take len (drop from_at (files Jnl)) in
      let size : length bytes ≡ len = length-take-le len (drop from_at (files Jnl)) (omega (arith, length-drop from_at (files Jnl))) in
      let given = front_bytes version (GivenFront to to_at (length bytes)) in
      let place : from_at ≡ at + length given = ap (λ (n : ℕ). at + n) (sym (front_length version (GivenFront to to_at (length bytes)))) in
      record {
        piece = Bytes to to_at bytes;
        legal = record { of_base = of_base; place = low; size = omega (arith, size); within = omega (arith, size) };
        begins = begins_more (files Jnl) at given bytes (subst (λ (n : ℕ). BeginsWith (journal_from files at) (front_bytes version (GivenFront to to_at n))) (sym size) front)
            (subst (λ (n : ℕ). BeginsWith (drop n (files Jnl)) bytes) place (record { behind = drop len (drop from_at (files Jnl)); is = sym (take-append-drop len (drop from_at (files Jnl))) }));
        behind = omega (arith, size, length-append given bytes, front_length version (GivenFront to to_at (length bytes)));
        target = refl;
        span = refl;
        inside = omega (arith, end_is);
      }

  -- no piece behind such a front
  pub given_not_there : (end : ℕ) (to : FileId) (to_at len : ℕ) → end ≡ length (files Jnl) → to_at < bound_of version → len < bound_of version
      → BeginsWith (journal_from files at) (front_bytes version (GivenFront to to_at len)) → (at + front_size version + len ≤ end → to_at + len ≤ size_in ends to → ⊥) → at + front_size version ≤ end
      → HasNoPieceAt files ends at
  given_not_there end to to_at len end_is low short front none room (Bytes file at' bytes) legal begins =
      let given = front_bytes version (GivenFront file at' (length bytes)) in
      let same = front_there (front_bytes version (GivenFront to to_at len)) (Bytes file at' bytes) (front_length version (GivenFront to to_at len)) front legal begins in
      let numbers = ap (number_at 1 1) same in
      let file_is = number-injective to file (omega (arith, numbers)) in
      let both = front_numbers version to_at len at' (length bytes) low short legal.place legal.size (ap (drop 4) same) in
      let long = begins_long (journal_from files at) (piece_bytes version (Bytes file at' bytes)) begins in
      let within = subst (λ (f : FileId). at' + length bytes ≤ size_in ends f) (sym file_is) legal.within in
      none (omega (arith, long, length-drop at (files Jnl), both.1, length-append given bytes, front_length version (GivenFront file at' (length bytes)))) (omega (arith, within, both.0, both.1))
  given_not_there end to to_at len end_is low short front none room (Copy from from_at to' to_at' len') legal begins =
      let same = front_there (front_bytes version (GivenFront to to_at len)) (Copy from from_at to' to_at' len') (front_length version (GivenFront to to_at len)) front legal begins in
      let numbers = ap (number_at 1 0) same in
      absurd (omega (arith, numbers))

  -- the copy behind its front
  pub copy_there : (sizes : Sizes) (from_at to_at len : ℕ) → AreFixedSizes sizes files → to_at < bound_of version → len < bound_of version → from_at < bound_of version
      → BeginsWith (journal_from files at) (front_bytes version (CopyFront to_at len)) → BeginsWith (journal_from files (at + front_size version)) (number_bytes (width_of version) from_at)
      → from_at + len ≤ size_in sizes Ndt → to_at + len ≤ size_in ends Jdt → IsPartAt files ends at (copied_part_of (at + front_size version + width_of version) from_at to_at len)
  copy_there sizes from_at to_at len are low short from_low front place inside within =
      let first = front_bytes version (CopyFront to_at len) in
      let second = number_bytes (width_of version) from_at in
      let size = front_length version (CopyFront to_at len) in
      record {
        piece = Copy Ndt from_at Jdt to_at len;
        legal = record { shadow = refl; texts = refl; place = low; source = from_low; size = short; inside = omega (arith, are.shadow); within = within };
        begins = begins_more (files Jnl) at first second front (subst (λ (n : ℕ). BeginsWith (drop (at + n) (files Jnl)) second) (sym size) place);
        behind = omega (arith, size, length-append first second, length-number_bytes (width_of version) from_at);
        target = refl;
        span = refl;
        inside = omega (arith, are.shadow);
      }

  -- what stands behind the front of a copy
  record IsCopyBehind (to_at len : ℕ) : Type 0 where
    pub from_at : ℕ
    pub low : from_at < bound_of version
    pub begins : BeginsWith (journal_from files (at + front_size version)) (number_bytes (width_of version) from_at)
    pub inside : from_at + len ≤ length (files Ndt)
    pub within : to_at + len ≤ size_in ends Jdt

  -- it stands there where a copy does
  copy_behind : (to_at len : ℕ) (piece : Piece) → to_at < bound_of version → len < bound_of version → BeginsWith (journal_from files at) (front_bytes version (CopyFront to_at len))
      → IsFine piece → BeginsWith (journal_from files at) (piece_bytes version piece) → IsCopyBehind to_at len
  copy_behind to_at len (Bytes file at' bytes) low short front legal begins =
      let same = front_there (front_bytes version (CopyFront to_at len)) (Bytes file at' bytes) (front_length version (CopyFront to_at len)) front legal begins in
      let numbers = ap (number_at 1 0) same in
      absurd (omega (arith, numbers))
  copy_behind to_at len (Copy from from_at to' to_at' len') low short front legal begins =
      let same = front_there (front_bytes version (CopyFront to_at len)) (Copy from from_at to' to_at' len') (front_length version (CopyFront to_at len)) front legal begins in
      let both = front_numbers version to_at len to_at' len' low short legal.place legal.size (ap (drop 4) same) in
      let parts = subst (BeginsWith (journal_from files at)) (piece_parts version (sizes_of files) (size_in ends) (Copy from from_at to' to_at' len') legal) begins in
      let behind = begins_behind (files Jnl) at (front_bytes version (CopyFront to_at' len')) (number_bytes (width_of version) from_at) parts in
      let inside = subst (λ (f : FileId). from_at + len' ≤ length (files f)) legal.shadow legal.inside in
      let within = subst (λ (f : FileId). to_at' + len' ≤ size_in ends f) legal.texts legal.within in
      record {
        from_at = from_at;
        low = legal.source;
        begins = subst (λ (n : ℕ). BeginsWith (drop (at + n) (files Jnl)) (number_bytes (width_of version) from_at)) (front_length version (CopyFront to_at' len')) behind;
        inside = omega (arith, inside, both.1);
        within = omega (arith, within, both.1, both.0);
      }

  -- no place copied from
  pub copy_cut : (to_at len : ℕ) → to_at < bound_of version → len < bound_of version → BeginsWith (journal_from files at) (front_bytes version (CopyFront to_at len))
      → length (journal_from files (at + front_size version)) < width_of version → HasNoPieceAt files ends at
  copy_cut to_at len low short front few piece legal begins =
      let behind = copy_behind to_at len piece low short front legal begins in
      let long = begins_long (journal_from files (at + front_size version)) (number_bytes (width_of version) behind.from_at) behind.begins in
      omega (arith, long, few, length-number_bytes (width_of version) behind.from_at)

  -- a copy that does not stay within the files
  pub copy_not_there : (sizes : Sizes) (from_at to_at len : ℕ) → AreFixedSizes sizes files → to_at < bound_of version → len < bound_of version → from_at < bound_of version
      → BeginsWith (journal_from files at) (front_bytes version (CopyFront to_at len)) → BeginsWith (journal_from files (at + front_size version)) (number_bytes (width_of version) from_at)
      → (from_at + len ≤ size_in sizes Ndt → to_at + len ≤ size_in ends Jdt → ⊥) → HasNoPieceAt files ends at
  copy_not_there sizes from_at to_at len are low short from_low front place none piece legal begins =
      let behind = copy_behind to_at len piece low short front legal begins in
      let there = behind.begins in
      let is : from_at ≡ behind.from_at = (same_value version from_at behind.from_at place.behind there.behind from_low behind.low (sym place.is ∙ there.is)).0 in
      none (omega (arith, is, behind.inside, are.shadow)) behind.within
