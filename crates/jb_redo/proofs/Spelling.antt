-- No spelling of a field is a proper prefix of another's of its kind.
use Rattle.std.proofs.Common.{◌≡◌, ◌⊎◌, inl, inr, ℕ, ◌<◌, List, [], ◌∷◌, ◌++◌, All, length, take, drop, refl, ap, sym, ◌∙◌, append_assoc, arith}
use Rattle.std.specs.Prelude.{◌^◌}
use Rattle.std.specs.List.{flat_map}
use Rattle.std.proofs.lemmas.List.{take_at, drop_at}
use Rattle.std.proofs.lemmas.List.Elements.{All-head, All-tail}
use Rattle.jb_bytes.specs.Number.{little_endian, number_at, number_bytes}
use Rattle.jb_bytes.proofs.Numbers.{little_endian-back, length-number_bytes}
use Rattle.jb_disk.specs.declared.file.FileId.{FileId}
use Rattle.jb_disk.specs.declared.file.FileId.TheVariants.{Jhr, Jdt, Jdx, Jlr, Jnl, Ndt}
use Rattle.jb_disk.specs.declared.piece.Length.{Length}
use Rattle.jb_disk.specs.declared.piece.Piece.{Piece}
use Rattle.jb_disk.specs.declared.piece.Piece.TheVariants.{Bytes, Copy}
use Rattle.jb_disk.specs.declared.version.Version.{Version}
use Rattle.jb_disk.specs.declared.version.Version.TheVariants.{One, Two}
use Rattle.jb_disk.specs.FileLaws.{number-injective}
use Rattle.jb_redo.specs.Reading.{BeginsWith}
use Rattle.jb_redo.specs.Record.{width_of, record_head, length_bytes, piece_bytes}
use Rattle.jb_redo.specs.Rules.{bound_of, most_of, IsChangeNumber, IsLegalLength, IsLegalPiece}

-- four strings behind one another
pub nested : (a b c d : List ℕ) → a ++ b ++ c ++ d ≡ a ++ (b ++ (c ++ d))
nested a b c d = append_assoc (a ++ b) c d ∙ append_assoc a b (c ++ d)

-- lists of one length before the same bytes
pub same_front : (xs ys r s : List ℕ) → length xs ≡ length ys → xs ++ r ≡ ys ++ s → (xs ≡ ys) × (r ≡ s)
same_front xs ys r s size same = (
  sym (take_at xs r (length xs) refl) ∙ ap (take (length xs)) same ∙ take_at ys s (length xs) (sym size),
  sym (drop_at xs r (length xs) refl) ∙ ap (drop (length xs)) same ∙ drop_at ys s (length xs) (sym size),
)

-- so many bytes hold one number
pub same_number : (width a b : ℕ) (r s : List ℕ) → a < 256 ^ width → b < 256 ^ width → number_bytes width a ++ r ≡ number_bytes width b ++ s → (a ≡ b) × (r ≡ s)
same_number width a b r s low low' same =
    let front = same_front (number_bytes width a) (number_bytes width b) r s (length-number_bytes width a ∙ sym (length-number_bytes width b)) same in
    (sym (little_endian-back width a low) ∙ ap little_endian front.0 ∙ little_endian-back width b low', front.1)

-- a place or a length fits its bytes
pub in_width : (version : Version) (n : ℕ) → n < bound_of version → n < 256 ^ width_of version
in_width One n low = low
in_width Two n low = low

-- and what fits them is one
pub from_width : (version : Version) (n : ℕ) → n < 256 ^ width_of version → n < bound_of version
from_width One n low = low
from_width Two n low = low

-- bytes begin with one place or length at most
pub same_value : (version : Version) (a b : ℕ) (r s : List ℕ) → a < bound_of version → b < bound_of version
    → number_bytes (width_of version) a ++ r ≡ number_bytes (width_of version) b ++ s → (a ≡ b) × (r ≡ s)
same_value version a b r s low low' same = same_number (width_of version) a b r s (in_width version a low) (in_width version b low') same

-- and with one head
pub same_head : (version : Version) (a b : ℕ) (r s : List ℕ) → IsChangeNumber version a → IsChangeNumber version b → record_head version a ++ r ≡ record_head version b ++ s → (a ≡ b) × (r ≡ s)
same_head One a b r s none none' same = (none ∙ sym none', ap (drop 4) same)
same_head Two a b r s low low' same = same_number 8 a b r s low low' (ap (drop 4) same)

-- the greatest length of each file fits its bytes
most_short : (version : Version) (file : FileId) → most_of version file < bound_of version
most_short One Jhr = omega arith
most_short One Jdt = omega arith
most_short One Jdx = omega arith
most_short One Jlr = omega arith
most_short One Jnl = omega arith
most_short One Ndt = omega arith
most_short Two Jhr = omega arith
most_short Two Jdt = omega arith
most_short Two Jdx = omega arith
most_short Two Jlr = omega arith
most_short Two Jnl = omega arith
most_short Two Ndt = omega arith

-- and so does a legal length
pub legal_short : (version : Version) (entry : Length) → IsLegalLength version entry → entry.len < bound_of version
legal_short version entry legal =
    let ceiling = legal.ceiling in
    omega (arith, most_short version entry.file)

-- bytes begin with one length at most
pub same_length : (version : Version) (one other : Length) (r s : List ℕ) → IsLegalLength version one → IsLegalLength version other → length_bytes version one ++ r ≡ length_bytes version other ++ s
    → (one ≡ other) × (r ≡ s)
same_length version one other r s legal legal' same =
    let numbers = ap (number_at 1 0) same in
    let file = number-injective one.file other.file (omega (arith, numbers)) in
    let lens = same_value version one.len other.len r s (legal_short version one legal) (legal_short version other legal') (ap (drop 4) same) in
    ((λ i. record { file = file i; len = lens.0 i }), lens.1)

-- bytes begin with one piece at most
pub same_piece : (version : Version) (sizes ends : FileId → ℕ) (one other : Piece) (r s : List ℕ) → IsLegalPiece version sizes ends one → IsLegalPiece version sizes ends other
    → piece_bytes version one ++ r ≡ piece_bytes version other ++ s → (one ≡ other) × (r ≡ s)
same_piece version sizes ends (Bytes file at bytes) (Bytes file' at' bytes') r s legal legal' same =
    let width = width_of version in
    let numbers = ap (number_at 1 1) same in
    let f = number-injective file file' (omega (arith, numbers)) in
    let a = same_value version at at' _ _ legal.place legal'.place
    (sym (nested (number_bytes width at) (number_bytes width (length bytes)) bytes r) ∙ ap (drop 4) same ∙ nested (number_bytes width at') (number_bytes width (length bytes')) bytes' s) in
    let n = same_value version (length bytes) (length bytes') _ _ legal.size legal'.size a.1 in
    let b = same_front bytes bytes' r s n.0 n.1 in
    ((λ i. Bytes (f i) (a.0 i) (b.0 i)), b.1)
same_piece version sizes ends (Bytes file at bytes) (Copy from from_at to to_at len) r s legal legal' same =
    let numbers = ap (number_at 1 0) same in
    absurd (omega (arith, numbers))
same_piece version sizes ends (Copy from from_at to to_at len) (Bytes file at bytes) r s legal legal' same =
    let numbers = ap (number_at 1 0) same in
    absurd (omega (arith, numbers))
same_piece version sizes ends (Copy from from_at to to_at len) (Copy from' from_at' to' to_at' len') r s legal legal' same =
    let width = width_of version in
    let targets = ap (number_at 1 1) same in
    let sources = ap (number_at 1 2) same in
    let t = number-injective to to' (omega (arith, targets)) in
    let f = number-injective from from' (omega (arith, sources)) in
    let a = same_value version to_at to_at' _ _ legal.place legal'.place
    (sym (nested (number_bytes width to_at) (number_bytes width len) (number_bytes width from_at) r) ∙ ap (drop 4) same ∙ nested (number_bytes width to_at') (number_bytes width len') (number_bytes width from_at') s) in
    let n = same_value version len len' _ _ legal.size legal'.size a.1 in
    let g = same_value version from_at from_at' _ _ legal.source legal'.source n.1 in
    ((λ i. Copy (f i) (g.0 i) (t i) (a.0 i) (n.0 i)), g.1)

-- items that are spelled so that bytes begin with one at most
module _ {X : Type 0} (code : X → List ℕ) (valid : X → Type 0) (same_item : (x y : X) (r s : List ℕ) → valid x → valid y → code x ++ r ≡ code y ++ s → (x ≡ y) × (r ≡ s)) where
  -- the second list goes on behind the first, and the bytes behind the first begin with its next item
  pub record GoesOn (xs ys : List X) (r : List ℕ) : Type 0 where
    pub item : X
    pub others : List X
    pub splits : ys ≡ xs ++ item ∷ others
    pub fits : valid item
    pub begins : BeginsWith r (code item)

  -- both lists have one more in front
  on_behind : (x y : X) (xs ys : List X) (r : List ℕ) → y ≡ x → GoesOn xs ys r → GoesOn (x ∷ xs) (y ∷ ys) r
  on_behind x y xs ys r same on = record {
    item = on.item;
    others = on.others;
    splits = λ i. same i ∷ on.splits i;
    fits = on.fits;
    begins = on.begins;
  }

  -- two lists before the same bytes: they are one, or one of them goes on where the other stops
  pub meet : (xs ys : List X) (r s : List ℕ) → All valid xs → All valid ys → flat_map code xs ++ r ≡ flat_map code ys ++ s
      → ((xs ≡ ys) × (r ≡ s)) ⊎ (GoesOn xs ys r ⊎ GoesOn ys xs s)
  meet [] [] r s fits fits' same = inl (refl, same)
  meet [] (y ∷ ys) r s fits fits' same = inr (inl (record {
    item = y;
    others = ys;
    splits = refl;
    fits = All-head valid y ys fits';
    begins = record { behind = flat_map code ys ++ s; is = same ∙ append_assoc (code y) (flat_map code ys) s };
  }))
  meet (x ∷ xs) [] r s fits fits' same = inr (inr (record {
    item = x;
    others = xs;
    splits = refl;
    fits = All-head valid x xs fits;
    begins = record { behind = flat_map code xs ++ r; is = sym same ∙ append_assoc (code x) (flat_map code xs) r };
  }))
  meet (x ∷ xs) (y ∷ ys) r s fits fits' same =
      let first = same_item x y (flat_map code xs ++ r) (flat_map code ys ++ s) (All-head valid x xs fits) (All-head valid y ys fits')
      (sym (append_assoc (code x) (flat_map code xs) r) ∙ same ∙ append_assoc (code y) (flat_map code ys) s) in
      elim (meet xs ys r s (All-tail valid x xs fits) (All-tail valid y ys fits') first.1) [
        | inl one ↦ inl ((λ i. first.0 i ∷ one.0 i), one.1)
        | inr more ↦ elim more [
          | inl on ↦ inr (inl (on_behind x y xs ys r (sym first.0) on))
          | inr on ↦ inr (inr (on_behind y x ys xs s first.0 on))
        ]
      ]
