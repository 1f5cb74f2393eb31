-- The spelling of a record in both versions, pinned to bytes that were written out by hand from the tables, and what two journals hold.
use Rattle.std.proofs.Common.{◌≡◌, inl, inr, ℕ, ◌<◌, ◌≤◌, List, [], ◌∷◌, All, length, take, refl, ap, arith}
use Rattle.std.proofs.lemmas.List.Elements.{All-cons, All-nil}
use Rattle.jb_disk.specs.declared.file.FileId.TheVariants.{Jhr, Jdt, Jdx, Jnl, Ndt}
use Rattle.jb_disk.specs.declared.piece.Length.{Length}
use Rattle.jb_disk.specs.declared.piece.Piece.{Piece}
use Rattle.jb_disk.specs.declared.piece.Piece.TheVariants.{Bytes, Copy}
use Rattle.jb_disk.specs.declared.version.Version.{Version}
use Rattle.jb_disk.specs.declared.version.Version.TheVariants.{One, Two}
use Rattle.jb_disk.specs.Files.{Files, with_file}
use Rattle.jb_disk.specs.Gate.{IsGateOpen}
use Rattle.jb_redo.specs.Reading.{BeginsWith, Pieces, IsNextField, IsRecordOf, IsBadAt}
use Rattle.jb_redo.specs.Record.{record_bytes}
use Rattle.jb_redo.specs.Rules.{sizes_of, bound_of, IsLegalLength, IsLegalPiece, AreLegalLengths}
use Rattle.jb_redo.proofs.FieldLemmas.{begins_long}

-- a record of nothing
nothing : record_bytes One 0 [] [] ≡ 0x4A ∷ 0x42 ∷ 0x4A ∷ 0x31 ∷ 0 ∷ 0 ∷ 0 ∷ 0 ∷ 0 ∷ 0 ∷ 0 ∷ 0 ∷ 0x4A ∷ 0x42 ∷ 0x4A ∷ 0x45 ∷ []
nothing = refl

-- and in the second version, of change 258
numbered_nothing : record_bytes Two 0x102 [] []
    ≡ 0x4A ∷ 0x42 ∷ 0x4A ∷ 0x32 ∷ 2 ∷ 1 ∷ 0 ∷ 0 ∷ 0 ∷ 0 ∷ 0 ∷ 0 ∷ 0 ∷ 0 ∷ 0 ∷ 0 ∷ 0 ∷ 0 ∷ 0 ∷ 0 ∷ 0x4A ∷ 0x42 ∷ 0x4A ∷ 0x46 ∷ []
numbered_nothing = refl

-- two lengths, two pieces of given bytes and a copy
abbrev two_lengths : List Length
two_lengths = record { file = Jhr; len = 10 } ∷ record { file = Jdx; len = 0x7EF40 } ∷ []

abbrev three_pieces : List Piece
three_pieces = Bytes Jhr 8 (0x58 ∷ 0x59 ∷ []) ∷ Copy Ndt 2 Jdt 0x10000 3 ∷ Bytes Jdx 0 (0x77 ∷ []) ∷ []

-- in the first version
worked : record_bytes One 0 two_lengths three_pieces
    ≡ 0x4A ∷ 0x42 ∷ 0x4A ∷ 0x31 ∷ 2 ∷ 0 ∷ 0 ∷ 0 ∷ 0 ∷ 0 ∷ 0 ∷ 0 ∷ 10 ∷ 0 ∷ 0 ∷ 0 ∷ 2 ∷ 0 ∷ 0 ∷ 0 ∷ 0x40 ∷ 0xEF ∷ 7 ∷ 0 ∷ 3 ∷ 0 ∷ 0 ∷ 0
    ∷ 0 ∷ 0 ∷ 0 ∷ 0 ∷ 8 ∷ 0 ∷ 0 ∷ 0 ∷ 2 ∷ 0 ∷ 0 ∷ 0 ∷ 0x58 ∷ 0x59
    ∷ 1 ∷ 1 ∷ 5 ∷ 0 ∷ 0 ∷ 0 ∷ 1 ∷ 0 ∷ 3 ∷ 0 ∷ 0 ∷ 0 ∷ 2 ∷ 0 ∷ 0 ∷ 0
    ∷ 0 ∷ 2 ∷ 0 ∷ 0 ∷ 0 ∷ 0 ∷ 0 ∷ 0 ∷ 1 ∷ 0 ∷ 0 ∷ 0 ∷ 0x77 ∷ 0x4A ∷ 0x42 ∷ 0x4A ∷ 0x45 ∷ []
worked = refl

-- in the second
worked_anew : record_bytes Two 1 two_lengths three_pieces
    ≡ 0x4A ∷ 0x42 ∷ 0x4A ∷ 0x32 ∷ 1 ∷ 0 ∷ 0 ∷ 0 ∷ 0 ∷ 0 ∷ 0 ∷ 0 ∷ 2 ∷ 0 ∷ 0 ∷ 0
    ∷ 0 ∷ 0 ∷ 0 ∷ 0 ∷ 10 ∷ 0 ∷ 0 ∷ 0 ∷ 0 ∷ 0 ∷ 0 ∷ 0 ∷ 2 ∷ 0 ∷ 0 ∷ 0 ∷ 0x40 ∷ 0xEF ∷ 7 ∷ 0 ∷ 0 ∷ 0 ∷ 0 ∷ 0 ∷ 3 ∷ 0 ∷ 0 ∷ 0
    ∷ 0 ∷ 0 ∷ 0 ∷ 0 ∷ 8 ∷ 0 ∷ 0 ∷ 0 ∷ 0 ∷ 0 ∷ 0 ∷ 0 ∷ 2 ∷ 0 ∷ 0 ∷ 0 ∷ 0 ∷ 0 ∷ 0 ∷ 0 ∷ 0x58 ∷ 0x59
    ∷ 1 ∷ 1 ∷ 5 ∷ 0 ∷ 0 ∷ 0 ∷ 1 ∷ 0 ∷ 0 ∷ 0 ∷ 0 ∷ 0 ∷ 3 ∷ 0 ∷ 0 ∷ 0 ∷ 0 ∷ 0 ∷ 0 ∷ 0 ∷ 2 ∷ 0 ∷ 0 ∷ 0 ∷ 0 ∷ 0 ∷ 0 ∷ 0
    ∷ 0 ∷ 2 ∷ 0 ∷ 0 ∷ 0 ∷ 0 ∷ 0 ∷ 0 ∷ 0 ∷ 0 ∷ 0 ∷ 0 ∷ 1 ∷ 0 ∷ 0 ∷ 0 ∷ 0 ∷ 0 ∷ 0 ∷ 0 ∷ 0x77 ∷ 0x4A ∷ 0x42 ∷ 0x4A ∷ 0x46 ∷ []
worked_anew = refl

-- a piece that makes the count of changes in a fixed header 5
abbrev five : List Piece
five = Bytes Jhr 8 (5 ∷ 0 ∷ 0 ∷ 0 ∷ []) ∷ []

-- a journal of the first version with it: the gate stands open
abbrev first_journal : List ℕ
first_journal =
    1 ∷ 0 ∷ 0 ∷ 0 ∷ 0 ∷ 0 ∷ 0 ∷ 0 ∷ 0 ∷ 0 ∷ 0 ∷ 0 ∷ 0 ∷ 0 ∷ 0 ∷ 0
    ∷ 0x4A ∷ 0x42 ∷ 0x4A ∷ 0x31 ∷ 0 ∷ 0 ∷ 0 ∷ 0 ∷ 1 ∷ 0 ∷ 0 ∷ 0
    ∷ 0 ∷ 0 ∷ 0 ∷ 0 ∷ 8 ∷ 0 ∷ 0 ∷ 0 ∷ 4 ∷ 0 ∷ 0 ∷ 0 ∷ 5 ∷ 0 ∷ 0 ∷ 0 ∷ 0x4A ∷ 0x42 ∷ 0x4A ∷ 0x45 ∷ []

-- what stands behind the gate byte in one of the second version with it, of change 9
abbrev behind_gate : List ℕ
behind_gate =
    2 ∷ 0 ∷ 0 ∷ 0 ∷ 0 ∷ 0 ∷ 0 ∷ 0 ∷ 0 ∷ 0 ∷ 0 ∷ 0 ∷ 0 ∷ 0 ∷ 0
    ∷ 0x4A ∷ 0x42 ∷ 0x4A ∷ 0x32 ∷ 9 ∷ 0 ∷ 0 ∷ 0 ∷ 0 ∷ 0 ∷ 0 ∷ 0 ∷ 0 ∷ 0 ∷ 0 ∷ 0 ∷ 1 ∷ 0 ∷ 0 ∷ 0
    ∷ 0 ∷ 0 ∷ 0 ∷ 0 ∷ 8 ∷ 0 ∷ 0 ∷ 0 ∷ 0 ∷ 0 ∷ 0 ∷ 0 ∷ 4 ∷ 0 ∷ 0 ∷ 0 ∷ 0 ∷ 0 ∷ 0 ∷ 0 ∷ 5 ∷ 0 ∷ 0 ∷ 0 ∷ 0x4A ∷ 0x42 ∷ 0x4A ∷ 0x46 ∷ []

-- 48 bytes and 64
sizes : (length first_journal ≡ 48) × (length (2 ∷ behind_gate) ≡ 64)
sizes = (refl, refl)

-- no lengths are legal
no_lengths : (version : Version) → AreLegalLengths version []
no_lengths version = record { few = omega arith; each = All-nil (IsLegalLength version); rising = λ i j d less low. absurd (omega arith) }

-- over files whose headers take twelve bytes or more
module _ (base : Files) (long : 12 ≤ length (base Jhr)) where
  -- with this journal
  abbrev holding : List ℕ → Files
  holding journal = with_file Jnl journal base

  -- the piece is legal, where its numbers fit
  fine : (version : Version) (journal : List ℕ) → 8 < bound_of version → All (IsLegalPiece version (sizes_of (holding journal)) (sizes_of (holding journal))) five
  fine version journal fits =
      let legal = IsLegalPiece version (sizes_of (holding journal)) (sizes_of (holding journal)) in
      All-cons legal (Bytes Jhr 8 (5 ∷ 0 ∷ 0 ∷ 0 ∷ [])) [] (record { of_base = omega arith; place = fits; size = omega arith; within = long }) (All-nil legal)

  -- the first is open, and holds the record
  first_open : IsGateOpen (holding first_journal)
  first_open = record { longer = omega arith; gate = refl }

  first_record : IsRecordOf (holding first_journal) [] five
  first_record = record {
    change = 0;
    numbered = refl;
    legal = record { lengths_are = no_lengths One; pieces_are = record { many = omega arith; each = fine One first_journal (omega arith) } };
    begins = record { behind = []; is = refl };
  }

  -- so does the second, with its number
  second_open : IsGateOpen (holding (2 ∷ behind_gate))
  second_open = record { longer = omega arith; gate = refl }

  second_record : IsRecordOf (holding (2 ∷ behind_gate)) [] five
  second_record = record {
    change = 9;
    numbered = omega arith;
    legal = record { lengths_are = no_lengths Two; pieces_are = record { many = omega arith; each = fine Two (2 ∷ behind_gate) (omega arith) } };
    begins = record { behind = []; is = refl };
  }

  -- with the gate byte of the first version the second is closed
  mixed_closed : IsGateOpen (holding (1 ∷ behind_gate)) → ⊥
  mixed_closed opened =
      let gate = opened.gate in
      omega (arith, gate)

  -- cut to 63 bytes it holds no record: the end, which begins at byte 60, is cut off
  abbrev cut_journal : List ℕ
  cut_journal = take 63 (2 ∷ behind_gate)

  cut_off : IsBadAt (holding cut_journal) 60
  cut_off = record {
    within = 44;
    place = refl;
    stopped = record {
      beginning = Pieces 9 [] 1 five;
      legal = record { numbered = omega arith; lengths_are = no_lengths Two; many = omega arith; so_far = omega arith; each = fine Two cut_journal (omega arith) };
      rest = 0x4A ∷ 0x42 ∷ 0x4A ∷ [];
      begins = refl;
      place = refl;
      stops = stops;
    };
  }
    where
      stops : (field : List ℕ) → IsNextField Two (sizes_of (holding cut_journal)) (Pieces 9 [] 1 five) field → BeginsWith (0x4A ∷ 0x42 ∷ 0x4A ∷ []) field → ⊥
      stops field (inl piece) begins =
          let more = piece.more in
          omega (arith, more)
      stops field (inr end) begins =
          let few = begins_long (0x4A ∷ 0x42 ∷ 0x4A ∷ []) field begins in
          omega (arith, few, ap length end.is)
