-- The first bytes of a line tell the line.
use Rattle.std.proofs.Common.{◌≡◌, ◌≢◌, ℕ, ◌+◌, ◌-◌, ◌<◌, ◌≤◌, ◌==◌, inl, inr, Bool, false, nat_le, List, [], ◌∷◌, ◌++◌, length, take, refl, ap, sym, subst, ◌∙◌, arith, if◌then◌else◌, length-append}
use Rattle.std.specs.List.{slice_index}
use Rattle.std.specs.Str.Lines.{strip_carriage_return}
use Rattle.std.proofs.lemmas.Bool.{cases_lt, cond_both}
use Rattle.std.proofs.lemmas.Bool.Decides.{nat_tests}
use Rattle.std.proofs.lemmas.List.{length-take, take-append-le, take_all}
use Rattle.jb_news.specs.declared.line.NewsLine.{NewsLine}
use Rattle.jb_news.specs.declared.line.NewsLine.TheVariants.{Line, TooLong}
use Rattle.jb_news.specs.Lines.{CutsInto, line_of}
use Rattle.jb_news.specs.Reading.{HasRead, held}
use Rattle.jb_news.proofs.Cuts.{cut_end, cut_on, cuts_more}

-- one byte at most is dropped at the end of a line
stripped_length : (bytes : List ℕ) → length bytes ≤ length (strip_carriage_return bytes) + 1
stripped_length bytes =
    cond_both (slice_index bytes (length bytes - 1) == 13) (take (length bytes - 1) bytes) bytes (λ (l : List ℕ). length bytes ≤ length l + 1)
    (λ _. omega (arith, length-take (length bytes - 1) bytes))
    (λ _. omega arith)

not_within : (n : ℕ) → 510 < n → nat_le n 510 ≡ false
not_within n h = grind (arith, nat_tests)

-- with 512 bytes it is too long
long_line : (bytes : List ℕ) → 511 < length bytes → line_of bytes ≡ TooLong
long_line bytes long =
    let much : 510 < length (strip_carriage_return bytes) = omega (arith, stripped_length bytes) in
    ap (λ (b : Bool). if b then Line (strip_carriage_return bytes) else TooLong) (not_within (length (strip_carriage_return bytes)) much)

-- the line of the bytes that are held is the line of all
pub line_held : (rest : List ℕ) → line_of (held rest) ≡ line_of rest
line_held rest = elim (cases_lt 512 (length rest)) [
  | inl long ↦
      let more : 511 < length rest = omega arith in
      let held_long : 511 < length (held rest) = omega (arith, length-take 512 rest) in
      long_line (held rest) held_long ∙ sym (long_line rest more)
  | inr short ↦ ap line_of (take_all 512 rest short)
]

-- one byte more is held as of all the bytes
pub held_more : (rest : List ℕ) (byte : ℕ) → held (held rest ++ byte ∷ []) ≡ held (rest ++ byte ∷ [])
held_more rest byte = elim (cases_lt 512 (length rest)) [
  | inl long ↦
      let enough : 512 ≤ length rest = omega arith in
      let held_enough : 512 ≤ length (held rest) = omega (arith, length-take 512 rest) in
      let held_few : length (held rest) ≤ 512 = omega (arith, length-take 512 rest) in
      take-append-le 512 (held rest) (byte ∷ []) held_enough ∙ take_all 512 (held rest) held_few ∙ sym (take-append-le 512 rest (byte ∷ []) enough)
  | inr short ↦ ap (λ (l : List ℕ). held (l ++ byte ∷ [])) (take_all 512 rest short)
]

-- nothing is read at first
pub read_none : HasRead [] [] []
read_none = record { rest = []; cuts = cut_nothing; is = refl }
  where
    cut_nothing : CutsInto [] [] []
    cut_nothing = record { raws = []; each = λ k d h. absurd (omega arith); last = λ k d h. absurd (omega arith); is = refl; read = refl }

-- a line feed ends the line
pub read_end : (kept bytes : List ℕ) (lines : List NewsLine) → HasRead kept bytes lines → HasRead [] (bytes ++ 10 ∷ []) (lines ++ line_of kept ∷ [])
read_end kept bytes lines read =
    let line : line_of kept ≡ line_of read.rest = ap line_of read.is ∙ line_held read.rest in
    record {
      rest = [];
      cuts = subst (λ (l : NewsLine). CutsInto (bytes ++ 10 ∷ []) (lines ++ l ∷ []) []) (sym line)
          (cuts_more bytes (10 ∷ []) lines (line_of read.rest ∷ []) read.rest [] read.cuts (cut_end read.rest read.cuts.last));
      is = refl;
    }

-- another byte goes on with it
pub read_on : (kept bytes : List ℕ) (lines : List NewsLine) (byte : ℕ) → byte ≢ 10 → HasRead kept bytes lines
    → HasRead (held (kept ++ byte ∷ [])) (bytes ++ byte ∷ []) (lines ++ [])
read_on kept bytes lines byte other read = record {
  rest = read.rest ++ byte ∷ [];
  cuts = cuts_more bytes (byte ∷ []) lines [] read.rest (read.rest ++ byte ∷ []) read.cuts (cut_on read.rest byte read.cuts.last other);
  is = ap (λ (l : List ℕ). held (l ++ byte ∷ [])) read.is ∙ held_more read.rest byte;
}

-- few bytes are held whole, and no more than 512
pub held_whole : (bytes : List ℕ) (byte : ℕ) → length bytes < 512 → bytes ++ byte ∷ [] ≡ held (bytes ++ byte ∷ [])
held_whole bytes byte few =
    let fits : length (bytes ++ byte ∷ []) ≤ 512 = omega (arith, length-append bytes (byte ∷ [])) in
    sym (take_all 512 (bytes ++ byte ∷ []) fits)

pub held_full : (bytes : List ℕ) (byte : ℕ) → 512 ≤ length bytes → length bytes ≤ 512 → bytes ≡ held (bytes ++ byte ∷ [])
held_full bytes byte full most = sym (take-append-le 512 bytes (byte ∷ []) full ∙ take_all 512 bytes most)
