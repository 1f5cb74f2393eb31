-- The bytes behind the journal's head have one reading.
use Rattle.std.proofs.Common.{◌≡◌, ◌⊎◌, inl, inr, ℕ, ◌+◌, ◌<◌, ◌≤◌, List, [], ◌∷◌, ◌++◌, All, length, drop, refl, ap, sym, ◌∙◌, append_assoc, arith, subst}
use Rattle.std.specs.Prelude.{◌^◌}
use Rattle.std.specs.List.{flat_map, AllPairs}
use Rattle.std.proofs.lemmas.List.{length-append, get_or_append_left, get_or_at, append-nil}
use Rattle.jb_bytes.specs.Number.{number_bytes}
use Rattle.jb_disk.specs.declared.file.FileId.{FileId}
use Rattle.jb_disk.specs.declared.piece.Length.{Length}
use Rattle.jb_disk.specs.declared.piece.Piece.{Piece}
use Rattle.jb_disk.specs.declared.version.Version.{Version}
use Rattle.jb_disk.specs.declared.version.Version.TheVariants.{One, Two}
use Rattle.jb_disk.specs.Gate.{version_of}
use Rattle.jb_redo.specs.Record.{record_mark, record_head, record_end, length_bytes, piece_bytes, record_bytes}
use Rattle.jb_redo.specs.Rules.{sizes_of, new_sizes, IsChangeNumber, IsLegalLength, IsBefore, IsLegalPiece, IsLegalRecord}
use Rattle.jb_redo.specs.Reading.{BeginsWith, Beginning, Nothing, MarkAlone, HeadAlone, Lengths, Pieces, beginning_bytes, IsLegalBeginning, IsNextField, IsStoppedAt, record_part}
use Rattle.jb_redo.specs.Laws.{HasOneRecordAtMost, HasOneBadPlaceAtMost, HasRecordOrBadPlace}
use Rattle.jb_redo.proofs.Spelling.{nested, same_number, same_front, same_head, same_length, same_piece, GoesOn, meet}

-- a beginning at which more than the end is to come
abbrev IsUnfinished : Beginning → Type 0
IsUnfinished (Pieces change lengths count pieces) = length pieces < count
IsUnfinished other = Unit {0}

-- a next field stands behind it, which is not the end
record GoesFurther (version : Version) (sizes : FileId → ℕ) (beginning : Beginning) (rest : List ℕ) : Type 0 where
  pub field : List ℕ
  pub next : IsNextField version sizes beginning field
  pub begins : BeginsWith rest field
  pub unfinished : IsUnfinished beginning

-- two beginnings of the same bytes: they are one, or one goes further
abbrev Meets : Version → (FileId → ℕ) → Beginning → Beginning → List ℕ → List ℕ → Type 0
Meets version sizes one other r s = ((one ≡ other) × (r ≡ s)) ⊎ (GoesFurther version sizes one r ⊎ GoesFurther version sizes other s)

-- the item behind others in a rising list is later than each of them
behind_all : {X : Type 0} (R : X → X → Type 0) (xs : List X) (item : X) (others : List X) → AllPairs R (xs ++ item ∷ others) → All (λ x. R x item) xs
behind_all R xs item others rising k d low =
    let pair = rising k (length xs) d low (omega (arith, length-append xs (item ∷ others))) in
    rw (get_or_append_left xs (item ∷ others) d k low) at (rw (get_or_at xs item others d (length xs) refl) at pair)

-- one list of a record is longer than another
longer : {X : Type 0} (xs ys : List X) (item : X) (others : List X) → ys ≡ xs ++ item ∷ others → length xs < length ys
longer xs ys item others splits = omega (arith, ap length splits, length-append xs (item ∷ others))

-- the versions are two
not_two : One ≡ Two → ⊥
not_two is = cc

-- a head begins with the mark
marked : (version : Version) (change : ℕ) (r : List ℕ) → (more : List ℕ) × (record_head version change ++ r ≡ record_mark version ++ more)
marked One change r = (r, refl)
marked Two change r = (number_bytes 8 change ++ r, refl)

-- behind the mark of the second version stands the number of the change
behind_mark : (version : Version) (change : ℕ) (r s : List ℕ) → version ≡ Two → IsChangeNumber version change → record_mark version ++ r ≡ record_head version change ++ s
    → (change < 2 ^ 64) × (r ≡ number_bytes 8 change ++ s)
behind_mark One change r s two none same = absurd (not_two two)
behind_mark Two change r s two low same = (low, ap (drop 4) same)

module _ (version : Version) (sizes : FileId → ℕ) where
  -- how a length and a piece are spelled, and when they are legal
  abbrev length_code : Length → List ℕ
  length_code = length_bytes version

  abbrev piece_code : Piece → List ℕ
  piece_code = piece_bytes version

  abbrev IsFine : List Length → Piece → Type 0
  IsFine lengths = IsLegalPiece version sizes (new_sizes lengths sizes)

  -- the fields of a beginning with lengths, one behind the other
  lengths_right : (change count : ℕ) (lengths : List Length) (r : List ℕ)
      → beginning_bytes version (Lengths change count lengths) ++ r ≡ record_head version change ++ (number_bytes 4 count ++ (flat_map length_code lengths ++ r))
  lengths_right change count lengths r = nested (record_head version change) (number_bytes 4 count) (flat_map length_code lengths) r

  -- and of one with pieces
  pub pieces_right : (change : ℕ) (lengths : List Length) (count : ℕ) (pieces : List Piece) (r : List ℕ)
      → beginning_bytes version (Pieces change lengths count pieces) ++ r
      ≡ record_head version change ++ (number_bytes 4 (length lengths) ++ (flat_map length_code lengths ++ (number_bytes 4 count ++ (flat_map piece_code pieces ++ r))))
  pieces_right change lengths count pieces r =
      nested (beginning_bytes version (Lengths change (length lengths) lengths)) (number_bytes 4 count) (flat_map piece_code pieces) r
      ∙ lengths_right change (length lengths) lengths (number_bytes 4 count ++ (flat_map piece_code pieces ++ r))

  -- bytes with a whole head
  record IsHeaded (bytes : List ℕ) : Type 0 where
    pub change : ℕ
    pub numbered : IsChangeNumber version change
    pub tail : List ℕ
    pub is : bytes ≡ record_head version change ++ tail

  -- a beginning with a head alone
  headed_alone : (change : ℕ) (r : List ℕ) → IsLegalBeginning version sizes (HeadAlone change) → IsHeaded (beginning_bytes version (HeadAlone change) ++ r)
  headed_alone change r legal = record { change = change; numbered = legal; tail = r; is = refl }

  -- with lengths
  headed_lengths : (change count : ℕ) (lengths : List Length) (r : List ℕ) → IsLegalBeginning version sizes (Lengths change count lengths)
      → IsHeaded (beginning_bytes version (Lengths change count lengths) ++ r)
  headed_lengths change count lengths r legal = record {
    change = change;
    numbered = legal.numbered;
    tail = number_bytes 4 count ++ (flat_map length_code lengths ++ r);
    is = lengths_right change count lengths r;
  }

  -- with pieces
  headed_pieces : (change : ℕ) (lengths : List Length) (count : ℕ) (pieces : List Piece) (r : List ℕ) → IsLegalBeginning version sizes (Pieces change lengths count pieces)
      → IsHeaded (beginning_bytes version (Pieces change lengths count pieces) ++ r)
  headed_pieces change lengths count pieces r legal = record {
    change = change;
    numbered = legal.numbered;
    tail = number_bytes 4 (length lengths) ++ (flat_map length_code lengths ++ (number_bytes 4 count ++ (flat_map piece_code pieces ++ r)));
    is = pieces_right change lengths count pieces r;
  }

  -- the mark is to come
  before_mark : (r more : List ℕ) → r ≡ record_mark version ++ more → GoesFurther version sizes Nothing r
  before_mark r more same = record { field = record_mark version; next = refl; begins = record { behind = more; is = same }; unfinished = tt }

  -- so it is where the others have a head
  before_head : (r bytes : List ℕ) → r ≡ bytes → IsHeaded bytes → GoesFurther version sizes Nothing r
  before_head r bytes same headed =
      let mark = marked version headed.change headed.tail in
      before_mark r mark.0 (same ∙ headed.is ∙ mark.1)

  -- the number of the change is to come
  before_change : (r bytes : List ℕ) → IsLegalBeginning version sizes MarkAlone → record_mark version ++ r ≡ bytes → IsHeaded bytes → GoesFurther version sizes MarkAlone r
  before_change r bytes two same headed =
      let number = behind_mark version headed.change r headed.tail two headed.numbered (same ∙ headed.is) in
      record {
        field = number_bytes 8 headed.change;
        next = record { change = headed.change; low = number.0; is = refl };
        begins = record { behind = headed.tail; is = number.1 };
        unfinished = tt;
      }

  -- the count of lengths is to come
  before_count : (change change' count : ℕ) (r more : List ℕ) → IsChangeNumber version change → IsChangeNumber version change' → count ≤ 4
      → record_head version change ++ r ≡ record_head version change' ++ (number_bytes 4 count ++ more) → GoesFurther version sizes (HeadAlone change) r
  before_count change change' count r more numbered numbered' few same = record {
    field = number_bytes 4 count;
    next = record { count = count; few = few; is = refl };
    begins = record { behind = more; is = (same_head version change change' r (number_bytes 4 count ++ more) numbered numbered' same).1 };
    unfinished = tt;
  }

  -- a length is to come
  before_length : (change count : ℕ) (lengths others : List Length) (r : List ℕ) → length others ≤ count → AllPairs IsBefore others
      → GoesOn length_code (IsLegalLength version) (same_length version) lengths others r → GoesFurther version sizes (Lengths change count lengths) r
  before_length change count lengths others r few rising on =
      let more = longer lengths others on.item on.others on.splits in
      record {
        field = length_code on.item;
        next = inl (record {
          more = omega (arith, more);
          entry = on.item;
          legal = on.fits;
          later = behind_all IsBefore lengths on.item on.others (subst (AllPairs IsBefore) on.splits rising);
          is = refl;
        });
        begins = on.begins;
        unfinished = tt;
      }

  -- a piece is to come
  before_piece : (change : ℕ) (lengths : List Length) (count : ℕ) (pieces others : List Piece) (r : List ℕ) → length others ≤ count
      → GoesOn piece_code (IsFine lengths) (same_piece version sizes (new_sizes lengths sizes)) pieces others r → GoesFurther version sizes (Pieces change lengths count pieces) r
  before_piece change lengths count pieces others r few on =
      let more = longer pieces others on.item on.others on.splits in
      let short : length pieces < count = omega (arith, more) in
      record {
        field = piece_code on.item;
        next = inl (record { more = short; piece = on.item; legal = on.fits; is = refl });
        begins = on.begins;
        unfinished = short;
      }

  -- the lists of lengths of two beginnings, where each count fits four bytes
  counts_meet : (change change' count count' : ℕ) (r s : List ℕ) → IsChangeNumber version change → IsChangeNumber version change' → count < 2 ^ 32 → count' < 2 ^ 32
      → record_head version change ++ (number_bytes 4 count ++ r) ≡ record_head version change' ++ (number_bytes 4 count' ++ s) → (change ≡ change') × (count ≡ count') × (r ≡ s)
  counts_meet change change' count count' r s numbered numbered' low low' same =
      let heads = same_head version change change' (number_bytes 4 count ++ r) (number_bytes 4 count' ++ s) numbered numbered' same in
      let counts = same_number 4 count count' r s low low' heads.1 in
      (heads.0, counts.0, counts.1)

  -- lengths, and lengths
  lengths_meet : (change change' count count' : ℕ) (lengths lengths' : List Length) (r s : List ℕ) → IsLegalBeginning version sizes (Lengths change count lengths)
      → IsLegalBeginning version sizes (Lengths change' count' lengths') → beginning_bytes version (Lengths change count lengths) ++ r ≡ beginning_bytes version (Lengths change' count' lengths') ++ s
      → Meets version sizes (Lengths change count lengths) (Lengths change' count' lengths') r s
  lengths_meet change change' count count' lengths lengths' r s legal legal' same =
      let few = legal.few in
      let few' = legal'.few in
      let so_far = legal.so_far in
      let so_far' = legal'.so_far in
      let counts = counts_meet change change' count count' _ _ legal.numbered legal'.numbered (omega arith) (omega arith)
      (sym (lengths_right change count lengths r) ∙ same ∙ lengths_right change' count' lengths' s) in
      elim (meet length_code (IsLegalLength version) (same_length version) lengths lengths' r s legal.legal.each legal'.legal.each counts.2) [
        | inl one ↦ inl ((λ i. Lengths (counts.0 i) (counts.1 i) (one.0 i)), one.1)
        | inr more ↦ elim more [
          | inl on ↦ inr (inl (before_length change count lengths lengths' r (omega (arith, counts.1)) legal'.legal.rising on))
          | inr on ↦ inr (inr (before_length change' count' lengths' lengths s (omega (arith, counts.1)) legal.legal.rising on))
        ]
      ]

  -- lengths, and pieces behind all of them
  lengths_then_pieces : (change change' count count' : ℕ) (lengths lengths' : List Length) (pieces' : List Piece) (r s : List ℕ) → IsLegalBeginning version sizes (Lengths change count lengths)
      → IsLegalBeginning version sizes (Pieces change' lengths' count' pieces') → beginning_bytes version (Lengths change count lengths) ++ r ≡ beginning_bytes version (Pieces change' lengths' count' pieces') ++ s
      → GoesFurther version sizes (Lengths change count lengths) r
  lengths_then_pieces change change' count count' lengths lengths' pieces' r s legal legal' same =
      let few = legal.few in
      let few' = legal'.lengths_are.few in
      let so_far = legal.so_far in
      let tail = number_bytes 4 count' ++ (flat_map piece_code pieces' ++ s) in
      let counts = counts_meet change change' count (length lengths') _ _ legal.numbered legal'.numbered (omega arith) (omega arith)
      (sym (lengths_right change count lengths r) ∙ same ∙ pieces_right change' lengths' count' pieces' s) in
      elim (meet length_code (IsLegalLength version) (same_length version) lengths lengths' r tail legal.legal.each legal'.lengths_are.each counts.2) [
        | inl one ↦ record {
          field = number_bytes 4 count';
          next = inr (record { all = ap length one.0 ∙ sym counts.1; pieces = count'; many = legal'.many; is = refl });
          begins = record { behind = flat_map piece_code pieces' ++ s; is = one.1 };
          unfinished = tt;
        }
        | inr more ↦ elim more [
          | inl on ↦ before_length change count lengths lengths' r (omega (arith, counts.1)) legal'.lengths_are.rising on
          | inr on ↦ absurd (omega (arith, longer lengths' lengths on.item on.others on.splits, counts.1))
        ]
      ]

  -- pieces behind the same lengths
  pieces_meet_behind : (change change' : ℕ) (lengths lengths' : List Length) (count count' : ℕ) (pieces pieces' : List Piece) (r s : List ℕ) → change ≡ change' → lengths' ≡ lengths
      → IsLegalBeginning version sizes (Pieces change lengths count pieces) → IsLegalBeginning version sizes (Pieces change' lengths' count' pieces')
      → number_bytes 4 count ++ (flat_map piece_code pieces ++ r) ≡ number_bytes 4 count' ++ (flat_map piece_code pieces' ++ s)
      → Meets version sizes (Pieces change lengths count pieces) (Pieces change' lengths' count' pieces') r s
  pieces_meet_behind change change' lengths lengths' count count' pieces pieces' r s changes_same lengths_same legal legal' same =
      let so_far = legal.so_far in
      let so_far' = legal'.so_far in
      let counts = same_number 4 count count' _ _ legal.many legal'.many same in
      let each' : All (IsFine lengths) pieces' = subst (λ (set : List Length). All (IsFine set) pieces') lengths_same legal'.each in
      let each'' : All (IsFine lengths') pieces = subst (λ (set : List Length). All (IsFine set) pieces) (sym lengths_same) legal.each in
      elim (meet piece_code (IsFine lengths) (same_piece version sizes (new_sizes lengths sizes)) pieces pieces' r s legal.each each' counts.1) [
        | inl one ↦ inl ((λ i. Pieces (changes_same i) (sym lengths_same i) (counts.0 i) (one.0 i)), one.1)
        | inr more ↦ elim more [
          | inl on ↦ inr (inl (before_piece change lengths count pieces pieces' r (omega (arith, counts.0)) on))
          | inr on ↦ elim (meet piece_code (IsFine lengths') (same_piece version sizes (new_sizes lengths' sizes)) pieces' pieces s r legal'.each each'' (sym counts.1)) [
            | inl one ↦ absurd (omega (arith, longer pieces' pieces on.item on.others on.splits, ap length one.0))
            | inr other ↦ elim other [
              | inl on' ↦ inr (inr (before_piece change' lengths' count' pieces' pieces s (omega (arith, counts.0)) on'))
              | inr on' ↦ absurd (omega (arith, longer pieces' pieces on.item on.others on.splits, longer pieces pieces' on'.item on'.others on'.splits))
            ]
          ]
        ]
      ]

  -- pieces, and pieces: what stands before them is the same
  before_pieces : (change change' : ℕ) (lengths lengths' : List Length) (count count' : ℕ) (pieces pieces' : List Piece) (r s : List ℕ)
      → IsLegalBeginning version sizes (Pieces change lengths count pieces) → IsLegalBeginning version sizes (Pieces change' lengths' count' pieces')
      → beginning_bytes version (Pieces change lengths count pieces) ++ r ≡ beginning_bytes version (Pieces change' lengths' count' pieces') ++ s
      → (change ≡ change') × (lengths ≡ lengths') × (number_bytes 4 count ++ (flat_map piece_code pieces ++ r) ≡ number_bytes 4 count' ++ (flat_map piece_code pieces' ++ s))
  before_pieces change change' lengths lengths' count count' pieces pieces' r s legal legal' same =
      let few = legal.lengths_are.few in
      let few' = legal'.lengths_are.few in
      let tail = number_bytes 4 count ++ (flat_map piece_code pieces ++ r) in
      let tail' = number_bytes 4 count' ++ (flat_map piece_code pieces' ++ s) in
      let counts = counts_meet change change' (length lengths) (length lengths') _ _ legal.numbered legal'.numbered (omega arith) (omega arith)
      (sym (pieces_right change lengths count pieces r) ∙ same ∙ pieces_right change' lengths' count' pieces' s) in
      elim (meet length_code (IsLegalLength version) (same_length version) lengths lengths' tail tail' legal.lengths_are.each legal'.lengths_are.each counts.2) [
        | inl one ↦ (counts.0, one.0, one.1)
        | inr more ↦ elim more [
          | inl on ↦ absurd (omega (arith, longer lengths lengths' on.item on.others on.splits, counts.1))
          | inr on ↦ absurd (omega (arith, longer lengths' lengths on.item on.others on.splits, counts.1))
        ]
      ]

  -- so they meet
  pieces_meet : (change change' : ℕ) (lengths lengths' : List Length) (count count' : ℕ) (pieces pieces' : List Piece) (r s : List ℕ)
      → IsLegalBeginning version sizes (Pieces change lengths count pieces) → IsLegalBeginning version sizes (Pieces change' lengths' count' pieces')
      → beginning_bytes version (Pieces change lengths count pieces) ++ r ≡ beginning_bytes version (Pieces change' lengths' count' pieces') ++ s
      → Meets version sizes (Pieces change lengths count pieces) (Pieces change' lengths' count' pieces') r s
  pieces_meet change change' lengths lengths' count count' pieces pieces' r s legal legal' same =
      let before = before_pieces change change' lengths lengths' count count' pieces pieces' r s legal legal' same in
      pieces_meet_behind change change' lengths lengths' count count' pieces pieces' r s before.0 (sym before.1) legal legal' before.2

  -- any two beginnings of the same bytes
  beginnings_meet : (one other : Beginning) (r s : List ℕ) → IsLegalBeginning version sizes one → IsLegalBeginning version sizes other → beginning_bytes version one ++ r ≡ beginning_bytes version other ++ s
      → Meets version sizes one other r s
  beginnings_meet Nothing Nothing r s legal legal' same = inl (refl, same)
  beginnings_meet Nothing MarkAlone r s legal legal' same = inr (inl (before_mark r s same))
  beginnings_meet Nothing (HeadAlone change) r s legal legal' same = inr (inl (before_head r _ same (headed_alone change s legal')))
  beginnings_meet Nothing (Lengths change count lengths) r s legal legal' same = inr (inl (before_head r _ same (headed_lengths change count lengths s legal')))
  beginnings_meet Nothing (Pieces change lengths count pieces) r s legal legal' same = inr (inl (before_head r _ same (headed_pieces change lengths count pieces s legal')))
  beginnings_meet MarkAlone Nothing r s legal legal' same = inr (inr (before_mark s r (sym same)))
  beginnings_meet MarkAlone MarkAlone r s legal legal' same = inl (refl, (same_front (record_mark version) (record_mark version) r s refl same).1)
  beginnings_meet MarkAlone (HeadAlone change) r s legal legal' same = inr (inl (before_change r _ legal same (headed_alone change s legal')))
  beginnings_meet MarkAlone (Lengths change count lengths) r s legal legal' same = inr (inl (before_change r _ legal same (headed_lengths change count lengths s legal')))
  beginnings_meet MarkAlone (Pieces change lengths count pieces) r s legal legal' same = inr (inl (before_change r _ legal same (headed_pieces change lengths count pieces s legal')))
  beginnings_meet (HeadAlone change) Nothing r s legal legal' same = inr (inr (before_head s _ (sym same) (headed_alone change r legal)))
  beginnings_meet (HeadAlone change) MarkAlone r s legal legal' same = inr (inr (before_change s _ legal' (sym same) (headed_alone change r legal)))
  beginnings_meet (HeadAlone change) (HeadAlone change') r s legal legal' same =
      let heads = same_head version change change' r s legal legal' same in
      inl ((λ i. HeadAlone (heads.0 i)), heads.1)
  beginnings_meet (HeadAlone change) (Lengths change' count' lengths') r s legal legal' same =
      inr (inl (before_count change change' count' r _ legal legal'.numbered legal'.few (same ∙ lengths_right change' count' lengths' s)))
  beginnings_meet (HeadAlone change) (Pieces change' lengths' count' pieces') r s legal legal' same =
      inr (inl (before_count change change' (length lengths') r _ legal legal'.numbered legal'.lengths_are.few (same ∙ pieces_right change' lengths' count' pieces' s)))
  beginnings_meet (Lengths change count lengths) Nothing r s legal legal' same = inr (inr (before_head s _ (sym same) (headed_lengths change count lengths r legal)))
  beginnings_meet (Lengths change count lengths) MarkAlone r s legal legal' same = inr (inr (before_change s _ legal' (sym same) (headed_lengths change count lengths r legal)))
  beginnings_meet (Lengths change count lengths) (HeadAlone change') r s legal legal' same =
      inr (inr (before_count change' change count s _ legal' legal.numbered legal.few (sym same ∙ lengths_right change count lengths r)))
  beginnings_meet (Lengths change count lengths) (Lengths change' count' lengths') r s legal legal' same = lengths_meet change change' count count' lengths lengths' r s legal legal' same
  beginnings_meet (Lengths change count lengths) (Pieces change' lengths' count' pieces') r s legal legal' same =
      inr (inl (lengths_then_pieces change change' count count' lengths lengths' pieces' r s legal legal' same))
  beginnings_meet (Pieces change lengths count pieces) Nothing r s legal legal' same = inr (inr (before_head s _ (sym same) (headed_pieces change lengths count pieces r legal)))
  beginnings_meet (Pieces change lengths count pieces) MarkAlone r s legal legal' same = inr (inr (before_change s _ legal' (sym same) (headed_pieces change lengths count pieces r legal)))
  beginnings_meet (Pieces change lengths count pieces) (HeadAlone change') r s legal legal' same =
      inr (inr (before_count change' change (length lengths) s _ legal' legal.numbered legal.lengths_are.few (sym same ∙ pieces_right change lengths count pieces r)))
  beginnings_meet (Pieces change lengths count pieces) (Lengths change' count' lengths') r s legal legal' same =
      inr (inr (lengths_then_pieces change' change count' count lengths' lengths pieces s r legal' legal (sym same)))
  beginnings_meet (Pieces change lengths count pieces) (Pieces change' lengths' count' pieces') r s legal legal' same =
      pieces_meet change change' lengths lengths' count count' pieces pieces' r s legal legal' same

  -- the pieces of a beginning are the first ones of the record
  pub pieces_of_record : (change change' : ℕ) (lengths lengths' : List Length) (count : ℕ) (pieces pieces' : List Piece) (r s : List ℕ)
      → IsLegalBeginning version sizes (Pieces change lengths count pieces) → IsLegalBeginning version sizes (Pieces change' lengths' (length pieces') pieces')
      → beginning_bytes version (Pieces change lengths count pieces) ++ r ≡ beginning_bytes version (Pieces change' lengths' (length pieces') pieces') ++ s
      → (others : List Piece) × (pieces' ≡ pieces ++ others)
  pieces_of_record change change' lengths lengths' count pieces pieces' r s legal legal' same =
      let so_far = legal.so_far in
      let before = before_pieces change change' lengths lengths' count (length pieces') pieces pieces' r s legal legal' same in
      let numbers = same_number 4 count (length pieces') _ _ legal.many legal'.many before.2 in
      let each' : All (IsFine lengths) pieces' = subst (λ (set : List Length). All (IsFine set) pieces') (sym before.1) legal'.each in
      elim (meet piece_code (IsFine lengths) (same_piece version sizes (new_sizes lengths sizes)) pieces pieces' r s legal.each each' numbers.1) [
        | inl both ↦ ([], sym both.0 ∙ sym (append-nil pieces))
        | inr more ↦ elim more [
          | inl on ↦ (on.item ∷ on.others, on.splits)
          | inr on ↦ absurd (omega (arith, longer pieces' pieces on.item on.others on.splits, numbers.0))
        ]
      ]

  -- the lengths that are read are those of the record
  pub lengths_of_record : (change change' : ℕ) (lengths lengths' : List Length) (pieces' : List Piece) (r s : List ℕ)
      → IsLegalBeginning version sizes (Lengths change (length lengths) lengths) → IsLegalBeginning version sizes (Pieces change' lengths' (length pieces') pieces')
      → beginning_bytes version (Lengths change (length lengths) lengths) ++ r ≡ beginning_bytes version (Pieces change' lengths' (length pieces') pieces') ++ s → lengths ≡ lengths'
  lengths_of_record change change' lengths lengths' pieces' r s legal legal' same =
      let few = legal.few in
      let few' = legal'.lengths_are.few in
      let tail' = number_bytes 4 (length pieces') ++ (flat_map piece_code pieces' ++ s) in
      let counts = counts_meet change change' (length lengths) (length lengths') _ _ legal.numbered legal'.numbered (omega arith) (omega arith)
      (sym (lengths_right change (length lengths) lengths r) ∙ same ∙ pieces_right change' lengths' (length pieces') pieces' s) in
      elim (meet length_code (IsLegalLength version) (same_length version) lengths lengths' r tail' legal.legal.each legal'.lengths_are.each counts.2) [
        | inl one ↦ one.0
        | inr more ↦ elim more [
          | inl on ↦ absurd (omega (arith, longer lengths lengths' on.item on.others on.splits, counts.1))
          | inr on ↦ absurd (omega (arith, longer lengths' lengths on.item on.others on.splits, counts.1))
        ]
      ]

-- a legal record is a legal beginning
pub whole_legal : (version : Version) (sizes : FileId → ℕ) (change : ℕ) (lengths : List Length) (pieces : List Piece) → IsChangeNumber version change → IsLegalRecord version sizes lengths pieces
    → IsLegalBeginning version sizes (Pieces change lengths (length pieces) pieces)
whole_legal version sizes change lengths pieces numbered legal =
    record { numbered = numbered; lengths_are = legal.lengths_are; many = legal.pieces_are.many; so_far = omega arith; each = legal.pieces_are.each }

-- the places of two beginnings that stop are one
stopped_once : (version : Version) (sizes : FileId → ℕ) (bytes : List ℕ) (at other : ℕ) → IsStoppedAt version sizes bytes at → IsStoppedAt version sizes bytes other → at ≡ other
stopped_once version sizes bytes at other one two =
    elim (beginnings_meet version sizes one.beginning two.beginning one.rest two.rest one.legal two.legal (sym one.begins ∙ two.begins)) [
      | inl same ↦ one.place ∙ ap (λ b. length (beginning_bytes version b)) same.0 ∙ sym two.place
      | inr more ↦ elim more [
        | inl on ↦ absurd (one.stops on.field on.next on.begins)
        | inr on ↦ absurd (two.stops on.field on.next on.begins)
      ]
    ]

-- a record as a beginning with the end behind it
pub record_begun : (version : Version) (change : ℕ) (lengths : List Length) (pieces : List Piece) (behind : List ℕ)
    → record_bytes version change lengths pieces ++ behind ≡ beginning_bytes version (Pieces change lengths (length pieces) pieces) ++ (record_end version ++ behind)
record_begun version change lengths pieces behind =
    append_assoc (beginning_bytes version (Pieces change lengths (length pieces) pieces)) (record_end version) behind

-- where a beginning stops there is no record
stopped_without_record : (version : Version) (sizes : FileId → ℕ) (bytes : List ℕ) (at change : ℕ) (lengths : List Length) (pieces : List Piece) → IsStoppedAt version sizes bytes at → IsChangeNumber version change
    → IsLegalRecord version sizes lengths pieces → BeginsWith bytes (record_bytes version change lengths pieces) → ⊥
stopped_without_record version sizes bytes at change lengths pieces stopped numbered legal begins =
    let whole = Pieces change lengths (length pieces) pieces in
    let end : IsNextField version sizes whole (record_end version) = inr (record { all = refl; is = refl }) in
    elim (beginnings_meet version sizes stopped.beginning whole stopped.rest (record_end version ++ begins.behind) stopped.legal (whole_legal version sizes change lengths pieces numbered legal)
    (sym stopped.begins ∙ begins.is ∙ record_begun version change lengths pieces begins.behind)) [
      | inl same ↦ stopped.stops (record_end version) (subst (λ b. IsNextField version sizes b (record_end version)) (sym same.0) end) (record { behind = begins.behind; is = same.1 })
      | inr more ↦ elim more [
        | inl on ↦ stopped.stops on.field on.next on.begins
        | inr on ↦ absurd (let none = on.unfinished in omega (arith, none))
      ]
    ]

-- the lengths of a beginning
lengths_in : Beginning → List Length
lengths_in (Pieces change lengths count pieces) = lengths
lengths_in other = []

-- its pieces
pieces_in : Beginning → List Piece
pieces_in (Pieces change lengths count pieces) = pieces
pieces_in other = []

-- the number of its change
change_in : Beginning → ℕ
change_in (Pieces change lengths count pieces) = change
change_in other = 0

-- bytes begin with one record at most
pub one_record_of : (version : Version) (sizes : FileId → ℕ) (bytes : List ℕ) (change change' : ℕ) (lengths lengths' : List Length) (pieces pieces' : List Piece) → IsChangeNumber version change → IsChangeNumber version change'
    → IsLegalRecord version sizes lengths pieces → IsLegalRecord version sizes lengths' pieces'
    → BeginsWith bytes (record_bytes version change lengths pieces) → BeginsWith bytes (record_bytes version change' lengths' pieces') → (lengths ≡ lengths') × (pieces ≡ pieces') × (change ≡ change')
unfolding lengths_in pieces_in change_in
one_record_of version sizes bytes change change' lengths lengths' pieces pieces' numbered numbered' legal legal' begins begins' =
    elim (beginnings_meet version sizes (Pieces change lengths (length pieces) pieces) (Pieces change' lengths' (length pieces') pieces') (record_end version ++ begins.behind) (record_end version ++ begins'.behind)
    (whole_legal version sizes change lengths pieces numbered legal) (whole_legal version sizes change' lengths' pieces' numbered' legal')
    (sym (record_begun version change lengths pieces begins.behind) ∙ sym begins.is ∙ begins'.is ∙ record_begun version change' lengths' pieces' begins'.behind)) [
      | inl same ↦ (ap lengths_in same.0, ap pieces_in same.0, ap change_in same.0)
      | inr more ↦ elim more [
        | inl on ↦ absurd (let none = on.unfinished in omega (arith, none))
        | inr on ↦ absurd (let none = on.unfinished in omega (arith, none))
      ]
    ]

-- a journal holds one record at most
pub one_record : HasOneRecordAtMost
one_record files lengths lengths' pieces pieces' is is' =
    one_record_of (version_of files) (sizes_of files) (record_part files) is.change is'.change lengths lengths' pieces pieces' is.numbered is'.numbered is.legal is'.legal is.begins is'.begins

-- one place is to blame
pub one_bad_place : HasOneBadPlaceAtMost
one_bad_place files at other bad bad' =
    bad.place ∙ ap (λ n. 16 + n) (stopped_once (version_of files) (sizes_of files) (record_part files) bad.within bad'.within bad.stopped bad'.stopped) ∙ sym bad'.place

-- where one is, there is no record
pub record_or_bad_place : HasRecordOrBadPlace
record_or_bad_place files at bad has =
    stopped_without_record (version_of files) (sizes_of files) (record_part files) bad.within has.is.change has.lengths has.pieces bad.stopped has.is.numbered has.is.legal has.is.begins
