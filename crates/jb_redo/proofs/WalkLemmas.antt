-- How a record is walked through: one field more, or the place where it stops.
use Rattle.std.proofs.Common.{◌≡◌, inl, inr, ℕ, ◌+◌, ◌<◌, ◌≤◌, List, [], ◌∷◌, ◌++◌, All, length, drop, get_or, refl, ap, sym, ◌∙◌, subst, arith, append_assoc}
use Rattle.std.specs.Prelude.{◌^◌}
use Rattle.std.specs.List.{AllPairs}
use Rattle.std.proofs.lemmas.Bool.{cases_eq}
use Rattle.std.proofs.lemmas.List.{same_lists, places, length-append, append-nil, drop_at, flat_map_more, get_or_at}
use Rattle.std.proofs.lemmas.List.Elements.{All-push}
use Rattle.std.proofs.lemmas.List.Quantifiers.{all_pairs_push}
use Rattle.jb_bytes.specs.Number.{number_bytes}
use Rattle.jb_bytes.proofs.Numbers.{length-number_bytes}
use Rattle.jb_disk.specs.declared.file.FileId.{FileId}
use Rattle.jb_disk.specs.declared.file.FileId.TheVariants.{Jhr, Jdt, Jdx, Jlr, Jnl, Ndt}
use Rattle.jb_disk.specs.declared.piece.Length.{Length}
use Rattle.jb_disk.specs.declared.piece.Piece.{Piece}
use Rattle.jb_disk.specs.declared.version.Version.{Version}
use Rattle.jb_disk.specs.declared.version.Version.TheVariants.{One, Two}
use Rattle.jb_disk.specs.Files.{Files, file_number, ceiling_of, first_ceiling_of}
use Rattle.jb_disk.specs.FileLaws.{number-injective}
use Rattle.jb_redo.specs.declared.part.Part.{Part}
use Rattle.jb_redo.specs.declared.sizes.Sizes.{Sizes}
use Rattle.jb_redo.specs.declared.head.RecordHead.{RecordHead}
use Rattle.jb_redo.specs.Reading.{BeginsWith, Beginning, Nothing, MarkAlone, HeadAlone, Lengths, Pieces, beginning_bytes, IsLegalBeginning, IsNextField, IsStoppedAt, IsBadAt, AreLengthsSoFar, IsRecordOf, record_part}
use Rattle.jb_redo.specs.Record.{width_of, record_mark, record_head, record_end, length_bytes, piece_bytes, record_bytes}
use Rattle.jb_redo.specs.Rules.{sizes_of, with_size, new_sizes, most_of, IsChangeNumber, IsLegalLength, IsLegalPiece, IsLegalRecord, IsBefore}
use Rattle.jb_redo.specs.Walk.{size_in, head_size, journal_from, HasVersion, HasHead, IsReadTo, HasLengthsTo, HasLengths, HasPiecesTo, HasNoPieceAt, IsPartAt, AreWithin}
use Rattle.jb_redo.proofs.FieldLemmas.{begins_long}
use Rattle.jb_redo.proofs.SizeLemmas.{new_sizes-push, with_size-here, with_size-other}
use Rattle.jb_redo.proofs.OneReading.{pieces_right, pieces_of_record, lengths_of_record, record_begun, whole_legal}
use Rattle.jb_redo.proofs.Spelling.{same_number, same_head}

-- behind a place and so many bytes more
pub drop_twice : (at n : ℕ) (bytes : List ℕ) → drop n (drop at bytes) ≡ drop (at + n) bytes
drop_twice at n bytes = same_lists _ _ (grind (arith, places)) (λ k d low. grind (arith, places))

-- what stands behind the first field
pub behind_first : (bytes first : List ℕ) → (begins : BeginsWith bytes first) → begins.behind ≡ drop (length first) bytes
behind_first bytes first begins = sym (ap (drop (length first)) begins.is ∙ drop_at first begins.behind (length first) refl)

-- a head has so many bytes
pub head_length : (version : Version) (change : ℕ) → length (record_head version change) ≡ head_size version
head_length One change = refl
head_length Two change = refl

-- twelve at most
pub head_few : (version : Version) → head_size version ≤ 12
head_few One = omega arith
head_few Two = omega arith

-- and a place or a length eight at most
pub width_few : (version : Version) → width_of version ≤ 8
width_few One = omega arith
width_few Two = omega arith

-- nothing is read yet
pub read_start : (files : Files) (version : Version) → HasVersion version files → IsReadTo files version Nothing 16
read_start files version has = record { version_is = has; legal = tt; spelled = refl; place = refl }

module _ (files : Files) (version : Version) where
  -- one field more
  pub read_field : (before after : Beginning) (at next : ℕ) (field : List ℕ) → IsReadTo files version before at → BeginsWith (journal_from files at) field
      → beginning_bytes version after ≡ beginning_bytes version before ++ field → IsLegalBeginning version (sizes_of files) after → next ≡ at + length field → IsReadTo files version after next
  read_field before after at next field read begins spelled legal place = record {
    version_is = read.version_is;
    legal = legal;
    spelled = read.spelled ∙ ap (λ (l : List ℕ). beginning_bytes version before ++ l) (begins.is ∙ ap (λ (l : List ℕ). field ++ l) rest)
        ∙ sym (append_assoc (beginning_bytes version before) field (journal_from files next))
        ∙ ap (λ (l : List ℕ). l ++ journal_from files next) (sym spelled);
    place = omega (arith, read.place, place, ap length spelled, length-append (beginning_bytes version before) field);
  }
    where
      rest : begins.behind ≡ journal_from files next
      rest = behind_first (journal_from files at) field begins ∙ drop_twice at (length field) (files Jnl) ∙ ap (λ (n : ℕ). drop n (files Jnl)) (sym place)

  -- no field more
  pub stops_at : (beginning : Beginning) (at : ℕ) → IsReadTo files version beginning at
      → ((field : List ℕ) → IsNextField version (sizes_of files) beginning field → BeginsWith (journal_from files at) field → ⊥) → IsBadAt files at
  stops_at beginning at read none = record {
    within = length (beginning_bytes version beginning);
    place = read.place;
    stopped = subst (λ (v : Version). IsStoppedAt v (sizes_of files) (record_part files) (length (beginning_bytes version beginning))) read.version_is
        (record { beginning = beginning; legal = read.legal; rest = journal_from files at; begins = read.spelled; place = refl; stops = none });
  }

  -- no mark
  pub bad_mark : HasVersion version files → (BeginsWith (journal_from files 16) (record_mark version) → ⊥) → IsBadAt files 16
  bad_mark has none = stops_at Nothing 16 (read_start files version has) (λ field next begins. none (subst (BeginsWith (journal_from files 16)) next begins))

  -- no number of the change behind the mark of the second version
  pub bad_change : HasVersion version files → version ≡ Two → BeginsWith (journal_from files 16) (record_mark version) → length (journal_from files 20) < 8 → IsBadAt files 20
  bad_change has two mark few = stops_at MarkAlone 20 read (λ field next begins.
      let long = begins_long (journal_from files 20) (number_bytes 8 next.change) (subst (BeginsWith (journal_from files 20)) next.is begins) in
      omega (arith, long, few))
    where
      size : (v : Version) → 20 ≡ 16 + length (record_mark v)
      size One = refl
      size Two = refl

      read : IsReadTo files version MarkAlone 20
      read = read_field Nothing MarkAlone 16 20 (record_mark version) (read_start files version has) mark refl two (size version)

  -- the head
  pub read_head : (change : ℕ) → HasVersion version files → IsChangeNumber version change → BeginsWith (journal_from files 16) (record_head version change)
      → IsReadTo files version (HeadAlone change) (16 + head_size version)
  read_head change has numbered begins =
      read_field Nothing (HeadAlone change) 16 (16 + head_size version) (record_head version change) (read_start files version has) begins refl numbered (omega (arith, head_length version change))

  -- no count of lengths
  pub bad_count : (change : ℕ) → HasVersion version files → IsChangeNumber version change → BeginsWith (journal_from files 16) (record_head version change)
      → ((count : ℕ) → count ≤ 4 → BeginsWith (journal_from files (16 + head_size version)) (number_bytes 4 count) → ⊥) → IsBadAt files (16 + head_size version)
  bad_count change has numbered head none =
      stops_at (HeadAlone change) (16 + head_size version) (read_head change has numbered head)
      (λ field next begins. none next.count next.few (subst (BeginsWith (journal_from files (16 + head_size version))) next.is begins))

  -- no lengths yet
  none_rising : (xs : List Length) → length xs ≡ 0 → AllPairs IsBefore xs
  none_rising xs none i j d less low = absurd (omega (arith, none))

  -- none of the lengths so far
  pub no_lengths : (change count : ℕ) → IsChangeNumber version change → count ≤ 4 → AreLengthsSoFar version change count []
  no_lengths change count numbered few = record {
    numbered = numbered;
    few = few;
    so_far = omega arith;
    legal = record { few = omega arith; each = λ k d low. absurd (omega arith); rising = none_rising [] refl };
  }

  -- the count of lengths
  pub read_count : (change count : ℕ) → count ≤ 4 → HasVersion version files → IsChangeNumber version change → BeginsWith (journal_from files 16) (record_head version change)
      → BeginsWith (journal_from files (16 + head_size version)) (number_bytes 4 count) → IsReadTo files version (Lengths change count []) (20 + head_size version)
  read_count change count few has numbered head begins =
      read_field (HeadAlone change) (Lengths change count []) (16 + head_size version) (20 + head_size version) (number_bytes 4 count) (read_head change has numbered head) begins
      (append-nil (record_head version change ++ number_bytes 4 count)) (no_lengths change count numbered few) (omega arith)

  -- the record that the journal holds, in the version that was read
  module _ (at change : ℕ) (lengths' : List Length) (pieces' : List Piece) (has : IsRecordOf files lengths' pieces') where
    -- it is a beginning
    as_read : HasVersion version files → IsLegalBeginning version (sizes_of files) (Pieces has.change lengths' (length pieces') pieces')
    as_read is =
        whole_legal version (sizes_of files) has.change lengths' pieces' (subst (λ (v : Version). IsChangeNumber v has.change) (sym is) has.numbered)
        (subst (λ (v : Version). IsLegalRecord v (sizes_of files) lengths' pieces') (sym is) has.legal)

    -- which is spelled behind the head
    as_spelled : HasVersion version files → record_part files ≡ beginning_bytes version (Pieces has.change lengths' (length pieces') pieces') ++ (record_end version ++ has.begins.behind)
    as_spelled is =
        has.begins.is ∙ ap (λ (v : Version). record_bytes v has.change lengths' pieces' ++ has.begins.behind) (sym is) ∙ record_begun version has.change lengths' pieces' has.begins.behind

    -- pieces that were read are its first ones
    pub record_pieces : (lengths : List Length) (count : ℕ) (pieces : List Piece) → IsReadTo files version (Pieces change lengths count pieces) at → (others : List Piece) × (pieces' ≡ pieces ++ others)
    record_pieces lengths count pieces read =
        pieces_of_record version (sizes_of files) change has.change lengths lengths' count pieces pieces' (journal_from files at) (record_end version ++ has.begins.behind)
        read.legal (as_read read.version_is) (sym read.spelled ∙ as_spelled read.version_is)

    -- lengths that were all read are its own
    pub record_lengths : (lengths : List Length) → IsReadTo files version (Lengths change (length lengths) lengths) at → lengths ≡ lengths'
    record_lengths lengths read =
        lengths_of_record version (sizes_of files) change has.change lengths lengths' pieces' (journal_from files at) (record_end version ++ has.begins.behind)
        read.legal (as_read read.version_is) (sym read.spelled ∙ as_spelled read.version_is)

-- the lengths begin
pub lengths_start : (files : Files) (change count at : ℕ) (ends : Sizes) → IsReadTo files ends.version (Lengths change count []) at → size_in ends ≡ sizes_of files → HasLengthsTo files count 0 0 at ends
lengths_start files change count at ends read are =
    record { change = change; lengths = []; size = refl; read_to = read; below = λ k d low. absurd (omega arith); no_less = λ number all. omega arith; ends_are = are }

module _ (files : Files) where
  -- too few bytes for a count
  pub no_number : (at n : ℕ) → length (journal_from files at) < 4 → BeginsWith (journal_from files at) (number_bytes 4 n) → ⊥
  no_number at n few begins =
      let long = begins_long (journal_from files at) (number_bytes 4 n) begins in
      omega (arith, long, few)

  -- the count that stands there
  pub one_number : (at n other : ℕ) → n < 2 ^ 32 → other < 2 ^ 32 → BeginsWith (journal_from files at) (number_bytes 4 n) → BeginsWith (journal_from files at) (number_bytes 4 other) → n ≡ other
  one_number at n other low low' begins begins' = (same_number 4 n other begins.behind begins'.behind low low' (sym begins.is ∙ begins'.is)).0

  -- no length more, where there is to be one
  pub bad_length : (count read least at : ℕ) (ends : Sizes) → HasLengthsTo files count read least at ends → read < count
      → ((entry : Length) → IsLegalLength ends.version entry → least ≤ file_number entry.file → BeginsWith (journal_from files at) (length_bytes ends.version entry) → ⊥) → IsBadAt files at
  bad_length count read least at ends has more none = stops_at files ends.version (Lengths has.change count has.lengths) at has.read_to (λ field next begins. elim next [
    | inl length_more ↦ none length_more.entry length_more.legal (has.no_less (file_number length_more.entry.file) length_more.later) (subst (BeginsWith (journal_from files at)) length_more.is begins)
    | inr all ↦ absurd (omega (arith, all.all, has.size))
  ])

  -- the last of these is below a number as all are
  last_below : (lengths : List Length) (entry : Length) (number : ℕ) → All (λ other. file_number other.file < number) (lengths ++ entry ∷ []) → file_number entry.file + 1 ≤ number
  last_below lengths entry number all =
      let last = all (length lengths) entry (omega (arith, length-append lengths (entry ∷ []))) in
      let is : get_or (lengths ++ entry ∷ []) (length lengths) entry ≡ entry = get_or_at lengths entry [] entry (length lengths) refl in
      let below : file_number entry.file < number = rw is at last in
      omega (arith, below)

  -- one length more
  pub next_length : (count read least next at : ℕ) (ends now : Sizes) (entry : Length) → next ≡ file_number entry.file → HasLengthsTo files count read least at ends → read < count
      → IsLegalLength ends.version entry → least ≤ file_number entry.file → BeginsWith (journal_from files at) (length_bytes ends.version entry)
      → size_in now ≡ with_size entry (size_in ends) → now.version ≡ ends.version → HasLengthsTo files count (read + 1) (next + 1) (at + (4 + width_of ends.version)) now
  next_length count read least next at ends now entry next_is has more legal high begins set same_version = record {
    change = has.change;
    lengths = has.lengths ++ entry ∷ [];
    size = omega (arith, has.size, length-append has.lengths (entry ∷ []));
    read_to = subst (λ (v : Version). IsReadTo files v (Lengths has.change count (has.lengths ++ entry ∷ [])) (at + (4 + width_of ends.version))) (sym same_version)
        (read_field files ends.version (Lengths has.change count has.lengths) (Lengths has.change count (has.lengths ++ entry ∷ [])) at (at + (4 + width_of ends.version)) (length_bytes ends.version entry)
        has.read_to begins spelled legal_now (omega (arith, length-number_bytes (width_of ends.version) entry.len)));
    below = All-push (λ other. file_number other.file < next + 1) has.lengths entry (λ k d low. let b = has.below k d low in omega (arith, b)) (omega arith);
    no_less = λ number all. let last = last_below has.lengths entry number all in omega (arith, last);
    ends_are = set ∙ ap (with_size entry) has.ends_are ∙ sym (new_sizes-push has.lengths entry (sizes_of files));
  }
    where
      spelled : beginning_bytes ends.version (Lengths has.change count (has.lengths ++ entry ∷ [])) ≡ beginning_bytes ends.version (Lengths has.change count has.lengths) ++ length_bytes ends.version entry
      spelled = sym (flat_map_more (length_bytes ends.version) (record_head ends.version has.change ++ number_bytes 4 count) has.lengths entry)

      legal_now : AreLengthsSoFar ends.version has.change count (has.lengths ++ entry ∷ [])
      legal_now =
          let was = has.read_to.legal in
          let few = was.few in
          let size : length (has.lengths ++ entry ∷ []) ≡ read + 1 = omega (arith, has.size, length-append has.lengths (entry ∷ [])) in
          record {
            numbered = was.numbered;
            few = was.few;
            so_far = omega arith;
            legal = record {
              few = omega arith;
              each = All-push (IsLegalLength ends.version) has.lengths entry was.legal.each legal;
              rising = all_pairs_push IsBefore has.lengths entry was.legal.rising (λ k d low. let b = has.below k d low in omega (arith, b));
            };
          }

  -- all lengths are read
  pub lengths_done : (count read least at : ℕ) (ends : Sizes) → HasLengthsTo files count read least at ends → read ≡ count → HasLengths files at ends
  lengths_done count read least at ends has all = record {
    change = has.change;
    lengths = has.lengths;
    read_to = subst (λ (n : ℕ). IsReadTo files ends.version (Lengths has.change n has.lengths) at) (sym all ∙ sym has.size) has.read_to;
    ends_are = has.ends_are;
  }

  -- no count of pieces
  pub bad_piece_count : (at : ℕ) (ends : Sizes) → HasLengths files at ends → ((n : ℕ) → n < 2 ^ 32 → BeginsWith (journal_from files at) (number_bytes 4 n) → ⊥) → IsBadAt files at
  bad_piece_count at ends has none = stops_at files ends.version (Lengths has.change (length has.lengths) has.lengths) at has.read_to (λ field next begins. elim next [
    | inl more ↦ absurd (let less = more.more in omega (arith, less))
    | inr count ↦ none count.pieces count.many (subst (BeginsWith (journal_from files at)) count.is begins)
  ])

  -- the pieces begin
  pub pieces_start : (count at : ℕ) (ends : Sizes) → HasLengths files at ends → count < 2 ^ 32 → BeginsWith (journal_from files at) (number_bytes 4 count) → HasPiecesTo files count 0 (at + 4) ends
  pieces_start count at ends has low begins = record {
    change = has.change;
    lengths = has.lengths;
    pieces = [];
    size = refl;
    read_to = read_field files ends.version (Lengths has.change (length has.lengths) has.lengths) (Pieces has.change has.lengths count []) at (at + 4) (number_bytes 4 count) has.read_to begins
        (append-nil (beginning_bytes ends.version (Lengths has.change (length has.lengths) has.lengths) ++ number_bytes 4 count))
        (record { numbered = has.read_to.legal.numbered; lengths_are = has.read_to.legal.legal; many = low; so_far = omega arith; each = λ k d few. absurd (omega arith) }) refl;
    ends_are = has.ends_are;
  }

  -- there are none yet
  pub pieces_start_none : (count at : ℕ) (ends : Sizes) (has : HasLengths files at ends) (low : count < 2 ^ 32) (begins : BeginsWith (journal_from files at) (number_bytes 4 count))
      → (pieces_start count at ends has low begins).pieces ≡ []
  unfolding pieces_start
  pieces_start_none count at ends has low begins = refl

  module _ (count read at : ℕ) (ends : Sizes) (has : HasPiecesTo files count read at ends) where
    -- a piece that is legal where the files end there then is one of this record
    is_legal : (piece : Piece) → IsLegalPiece ends.version (sizes_of files) (size_in ends) piece → IsLegalPiece ends.version (sizes_of files) (new_sizes has.lengths (sizes_of files)) piece
    is_legal piece legal = subst (λ (e : FileId → ℕ). IsLegalPiece ends.version (sizes_of files) e piece) has.ends_are legal

    -- no piece more, where there is to be one
    pub bad_piece : read < count → HasNoPieceAt files ends at → IsBadAt files at
    bad_piece more none = stops_at files ends.version (Pieces has.change has.lengths count has.pieces) at has.read_to (λ field next begins. elim next [
      | inl piece ↦ none piece.piece (subst (λ (e : FileId → ℕ). IsLegalPiece ends.version (sizes_of files) e piece.piece) (sym has.ends_are) piece.legal) (subst (BeginsWith (journal_from files at)) piece.is begins)
      | inr end ↦ absurd (omega (arith, end.all, has.size))
    ])

    -- one piece more
    pub next_piece : (part : Part) → read < count → IsPartAt files ends at part → HasPiecesTo files count (read + 1) part.behind ends
    next_piece part more there = record {
      change = has.change;
      lengths = has.lengths;
      pieces = has.pieces ++ there.piece ∷ [];
      size = size_now;
      read_to = read_field files ends.version (Pieces has.change has.lengths count has.pieces) (Pieces has.change has.lengths count (has.pieces ++ there.piece ∷ [])) at part.behind (piece_bytes ends.version there.piece)
          has.read_to there.begins
          (sym (flat_map_more (piece_bytes ends.version) (beginning_bytes ends.version (Lengths has.change (length has.lengths) has.lengths) ++ number_bytes 4 count) has.pieces there.piece))
          (record {
            numbered = has.read_to.legal.numbered;
            lengths_are = has.read_to.legal.lengths_are;
            many = has.read_to.legal.many;
            so_far = omega (arith, size_now);
            each = All-push (IsLegalPiece ends.version (sizes_of files) (new_sizes has.lengths (sizes_of files))) has.pieces there.piece has.read_to.legal.each (is_legal there.piece there.legal);
          }) there.behind;
      ends_are = has.ends_are;
    }
      where
        size_now : length (has.pieces ++ there.piece ∷ []) ≡ read + 1
        size_now = omega (arith, has.size, length-append has.pieces (there.piece ∷ []))

    -- its pieces are those and this one
    pub next_piece_is : (part : Part) (more : read < count) (there : IsPartAt files ends at part) → (next_piece part more there).pieces ≡ has.pieces ++ there.piece ∷ []
    unfolding next_piece
    next_piece_is part more there = refl

    -- no end, where the pieces are there
    pub bad_end : read ≡ count → (BeginsWith (journal_from files at) (record_end ends.version) → ⊥) → IsBadAt files at
    bad_end all none = stops_at files ends.version (Pieces has.change has.lengths count has.pieces) at has.read_to (λ field next begins. elim next [
      | inl piece ↦ absurd (let less = piece.more in omega (arith, less, has.size, all))
      | inr end ↦ none (subst (BeginsWith (journal_from files at)) end.is begins)
    ])

    -- the pieces are those of the count
    whole_spelled : read ≡ count → BeginsWith (journal_from files at) (record_end ends.version) → BeginsWith (record_part files) (record_bytes ends.version has.change has.lengths has.pieces)
    whole_spelled all begins = record {
      behind = begins.behind;
      is = has.read_to.spelled ∙ ap (λ (n : ℕ). beginning_bytes ends.version (Pieces has.change has.lengths n has.pieces) ++ journal_from files at) (sym all ∙ sym has.size)
          ∙ ap (λ (l : List ℕ). beginning_bytes ends.version (Pieces has.change has.lengths (length has.pieces) has.pieces) ++ l) begins.is
          ∙ sym (append_assoc (beginning_bytes ends.version (Pieces has.change has.lengths (length has.pieces) has.pieces)) (record_end ends.version) begins.behind);
    }

    -- the end, and so a record
    pub whole_record : read ≡ count → BeginsWith (journal_from files at) (record_end ends.version) → IsRecordOf files has.lengths has.pieces
    whole_record all begins = record {
      change = has.change;
      numbered = subst (λ (v : Version). IsChangeNumber v has.change) has.read_to.version_is has.read_to.legal.numbered;
      legal = subst (λ (v : Version). IsLegalRecord v (sizes_of files) has.lengths has.pieces) has.read_to.version_is
          (record { lengths_are = has.read_to.legal.lengths_are; pieces_are = record { many = omega (arith, has.read_to.legal.many, has.size, all); each = has.read_to.legal.each } });
      begins = subst (λ (v : Version). BeginsWith (record_part files) (record_bytes v has.change has.lengths has.pieces)) has.read_to.version_is (whole_spelled all begins);
    }

    -- its change is the one of the head that was read
    pub change_read : (head : RecordHead) → HasHead head files → has.change ≡ head.change
    change_read head read =
        let same : head.version ≡ ends.version = read.version ∙ sym has.read_to.version_is in
        let begins = subst (λ (v : Version). BeginsWith (record_part files) (record_head v head.change)) same read.begins in
        let numbered = subst (λ (v : Version). IsChangeNumber v head.change) same read.numbered in
        (same_head ends.version has.change head.change _ begins.behind has.read_to.legal.numbered numbered
        (sym (pieces_right ends.version (sizes_of files) has.change has.lengths count has.pieces (journal_from files at)) ∙ sym has.read_to.spelled ∙ begins.is)).0

    -- and so is the record's
    pub whole_change : (all : read ≡ count) (begins : BeginsWith (journal_from files at) (record_end ends.version)) → (whole_record all begins).change ≡ has.change
    unfolding whole_record
    whole_change all begins = refl

-- the first version sets no greater lengths than the second
first_less : (file : FileId) → first_ceiling_of file ≤ ceiling_of file
first_less Jhr = omega arith
first_less Jdt = omega arith
first_less Jdx = omega arith
first_less Jlr = omega arith
first_less Jnl = omega arith
first_less Ndt = omega arith

-- so each length that is set is one that a file may be given
pub most_within : (version : Version) (file : FileId) → most_of version file ≤ ceiling_of file
most_within One file = first_less file
most_within Two file = omega arith

-- a legal length more
pub within_set : (version : Version) (sizes ends now : Sizes) (entry : Length) → AreWithin sizes ends → IsLegalLength version entry → size_in now ≡ with_size entry (size_in ends) → AreWithin sizes now
within_set version sizes ends now entry within legal set file =
    let here : size_in now file ≡ with_size entry (size_in ends) file = ap (λ (f : FileId → ℕ). f file) set in
    elim (cases_eq (file_number file) (file_number entry.file)) [
      | inl same ↦
          let len = here ∙ with_size-here entry (size_in ends) file same in
          let below = legal.of_base in
          inr (omega (arith, same, below), subst (λ (f : FileId). size_in now file ≤ ceiling_of f) (sym (number-injective file entry.file same)) (let ceiling = legal.ceiling in omega (arith, len, most_within version entry.file)))
      | inr apart ↦
          let kept = here ∙ with_size-other entry (size_in ends) file apart in
          elim (within file) [ inl old ↦ inl (kept ∙ old) | inr fits ↦ inr (fits.0, let low = fits.1 in omega (arith, kept, low)) ]
    ]
