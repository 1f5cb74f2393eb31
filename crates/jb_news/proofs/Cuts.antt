-- Any bytes are cut into lines in exactly one way, and a cut goes on as more bytes come.
use Rattle.std.proofs.Common.{◌≡◌, ◌≢◌, ℕ, ◌==◌, Bool, true, false, All, List, [], ◌∷◌, ◌++◌, map, flat_map, drop, get_or, refl, sym, ap, ◌∙◌, append_assoc, append-nil}
use Rattle.std.proofs.lemmas.Bool.{eqb-true, eqb-false}
use Rattle.std.proofs.lemmas.List.{map-append}
use Rattle.std.proofs.lemmas.List.Concat.{flat_map-append}
use Rattle.std.proofs.lemmas.List.Elements.{All-append, All-cons, All-head, All-nil, All-tail}
use Rattle.jb_news.specs.declared.line.NewsLine.{NewsLine}
use Rattle.jb_news.specs.Laws.{GoesOnWith}
use Rattle.jb_news.specs.Lines.{CutsInto, IsUnended, ended, line_of}

-- the first parts of two lists that are one
heads : (x y : ℕ) (xs ys : List ℕ) → x ∷ xs ≡ y ∷ ys → x ≡ y
heads x y xs ys e = ap (λ (l : List ℕ). get_or l 0 0) e

tails : (x y : ℕ) (xs ys : List ℕ) → x ∷ xs ≡ y ∷ ys → xs ≡ ys
tails x y xs ys e = ap (λ (l : List ℕ). drop 1 l) e

-- the first of the bytes is no line feed
first_other : (x : ℕ) (xs : List ℕ) → IsUnended (x ∷ xs) → x ≢ 10
first_other x xs each = All-head (λ (byte : ℕ). byte ≢ 10) x xs each

rest_other : (x : ℕ) (xs : List ℕ) → IsUnended (x ∷ xs) → IsUnended xs
rest_other x xs each = All-tail (λ (byte : ℕ). byte ≢ 10) x xs each

with_first : (x : ℕ) (xs : List ℕ) → x ≢ 10 → IsUnended xs → IsUnended (x ∷ xs)
with_first x xs here each = All-cons (λ (byte : ℕ). byte ≢ 10) x xs here each

-- the first line ends at the first line feed
one_line : (raw other behind later : List ℕ) → IsUnended raw → IsUnended other → raw ++ 10 ∷ behind ≡ other ++ 10 ∷ later → (raw ≡ other) × (behind ≡ later)
one_line [] [] behind later one two e = (refl, tails 10 10 behind later e)
one_line [] (y ∷ ys) behind later one two e = absurd (first_other y ys two (sym (heads 10 y behind (ys ++ 10 ∷ later) e)))
one_line (x ∷ xs) [] behind later one two e = absurd (first_other x xs one (heads x 10 (xs ++ 10 ∷ behind) later e))
one_line (x ∷ xs) (y ∷ ys) behind later one two e =
    let on = one_line xs ys behind later (rest_other x xs one) (rest_other y ys two) (tails x y (xs ++ 10 ∷ behind) (ys ++ 10 ∷ later) e) in
    (ap (λ (n : ℕ). n ∷ xs) (heads x y (xs ++ 10 ∷ behind) (ys ++ 10 ∷ later) e) ∙ ap (λ (l : List ℕ). y ∷ l) on.0, on.1)

-- bytes without a line feed have none
none_here : (raw behind rest : List ℕ) → IsUnended rest → raw ++ 10 ∷ behind ≢ rest
none_here [] behind [] each e = absurd (cc)
none_here [] behind (y ∷ ys) each e = first_other y ys each (sym (heads 10 y behind ys e))
none_here (x ∷ xs) behind [] each e = absurd (cc)
none_here (x ∷ xs) behind (y ∷ ys) each e = none_here xs behind ys (rest_other y ys each) (tails x y (xs ++ 10 ∷ behind) ys e)

-- the first line, and what stands behind its end
first_raw : (raw : List ℕ) (raws : List (List ℕ)) (rest : List ℕ) → flat_map ended (raw ∷ raws) ++ rest ≡ raw ++ 10 ∷ (flat_map ended raws ++ rest)
first_raw raw raws rest = append_assoc (ended raw) (flat_map ended raws) rest ∙ append_assoc raw (10 ∷ []) (flat_map ended raws ++ rest)

one_cut : (raws others : List (List ℕ)) (rest other : List ℕ) → All IsUnended raws → All IsUnended others → IsUnended rest → IsUnended other
    → flat_map ended raws ++ rest ≡ flat_map ended others ++ other → (raws ≡ others) × (rest ≡ other)
one_cut [] [] rest other each every last end e = (refl, e)
one_cut [] (two ∷ others) rest other each every last end e =
    absurd (none_here two (flat_map ended others ++ other) rest last (sym (first_raw two others other) ∙ sym e))
one_cut (one ∷ raws) [] rest other each every last end e =
    absurd (none_here one (flat_map ended raws ++ rest) other end (sym (first_raw one raws rest) ∙ e))
one_cut (one ∷ raws) (two ∷ others) rest other each every last end e =
    let here = one_line one two (flat_map ended raws ++ rest) (flat_map ended others ++ other) (All-head IsUnended one raws each) (All-head IsUnended two others every)
    (sym (first_raw one raws rest) ∙ e ∙ first_raw two others other) in
    let on = one_cut raws others rest other (All-tail IsUnended one raws each) (All-tail IsUnended two others every) last end here.1 in
    (ap (λ (l : List ℕ). l ∷ raws) here.0 ∙ ap (λ (l : List (List ℕ)). two ∷ l) on.0, on.1)

-- no bytes are cut in two ways
pub cuts_one : (bytes : List ℕ) (lines others : List NewsLine) (rest other : List ℕ) → CutsInto bytes lines rest → CutsInto bytes others other
    → (lines ≡ others) × (rest ≡ other)
cuts_one bytes lines others rest other one two =
    let same = one_cut one.raws two.raws rest other one.each two.each one.last two.last (sym one.is ∙ two.is) in
    (one.read ∙ ap (map line_of) same.0 ∙ sym two.read, same.1)

-- bytes that are whole lines and a rest
record IsCut (bytes : List ℕ) : Type 0 where
  pub raws : List (List ℕ)
  pub rest : List ℕ
  pub each : All IsUnended raws
  pub last : IsUnended rest
  pub is : bytes ≡ flat_map ended raws ++ rest

-- a byte that is no line feed belongs to the first line
cut_other : (x : ℕ) (xs : List ℕ) (raws : List (List ℕ)) (rest : List ℕ) → x ≢ 10 → All IsUnended raws → IsUnended rest → xs ≡ flat_map ended raws ++ rest → IsCut (x ∷ xs)
cut_other x xs [] rest other each last is = record {
  raws = [];
  rest = x ∷ rest;
  each = each;
  last = with_first x rest other last;
  is = ap (λ (l : List ℕ). x ∷ l) is;
}
cut_other x xs (raw ∷ raws) rest other each last is = record {
  raws = (x ∷ raw) ∷ raws;
  rest = rest;
  each = All-cons IsUnended (x ∷ raw) raws (with_first x raw other (All-head IsUnended raw raws each)) (All-tail IsUnended raw raws each);
  last = last;
  is = ap (λ (l : List ℕ). x ∷ l) is;
}

cut_byte : (x : ℕ) (xs : List ℕ) (test : Bool) → (x == 10) ≡ test → IsCut xs → IsCut (x ∷ xs)
cut_byte x xs true is cut = record {
  raws = [] ∷ cut.raws;
  rest = cut.rest;
  each = All-cons IsUnended [] cut.raws (All-nil (λ (byte : ℕ). byte ≢ 10)) cut.each;
  last = cut.last;
  is = ap (λ (n : ℕ). n ∷ xs) (eqb-true x 10 is) ∙ ap (λ (l : List ℕ). 10 ∷ l) cut.is;
}
cut_byte x xs false is cut = cut_other x xs cut.raws cut.rest (eqb-false x 10 is) cut.each cut.last cut.is

cut_of : (bytes : List ℕ) → IsCut bytes
cut_of [] = record { raws = []; rest = []; each = All-nil IsUnended; last = All-nil (λ (byte : ℕ). byte ≢ 10); is = refl }
cut_of (x ∷ xs) = cut_byte x xs (x == 10) refl (cut_of xs)

-- any bytes are cut into lines and a rest
pub cuts_some : (bytes : List ℕ) → GoesOnWith bytes []
cuts_some bytes =
    let cut = cut_of bytes in
    record {
      more = map line_of cut.raws;
      rest = cut.rest;
      cuts = record { raws = cut.raws; each = cut.each; last = cut.last; is = cut.is; read = refl };
    }

-- what the rest and more bytes are cut into goes on from what was cut
pub cuts_more : (bytes more : List ℕ) (lines later : List NewsLine) (rest end : List ℕ) → CutsInto bytes lines rest → CutsInto (rest ++ more) later end
    → CutsInto (bytes ++ more) (lines ++ later) end
cuts_more bytes more lines later rest end one two = record {
  raws = one.raws ++ two.raws;
  each = All-append IsUnended one.raws two.raws one.each two.each;
  last = two.last;
  is = ap (λ (l : List ℕ). l ++ more) one.is ∙ append_assoc (flat_map ended one.raws) rest more ∙ ap (λ (l : List ℕ). flat_map ended one.raws ++ l) two.is
      ∙ sym (append_assoc (flat_map ended one.raws) (flat_map ended two.raws) end)
      ∙ ap (λ (l : List ℕ). l ++ end) (sym (flat_map-append ended one.raws two.raws));
  read = ap (λ (l : List NewsLine). l ++ later) one.read ∙ ap (λ (l : List NewsLine). map line_of one.raws ++ l) two.read
      ∙ sym (map-append line_of one.raws two.raws);
}

-- more bytes go on from a cut
pub goes_on : (bytes more : List ℕ) (lines : List NewsLine) (rest : List ℕ) → CutsInto bytes lines rest → GoesOnWith (bytes ++ more) lines
goes_on bytes more lines rest one =
    let on = cuts_some (rest ++ more) in
    record { more = on.more; rest = on.rest; cuts = cuts_more bytes more lines on.more rest on.rest one on.cuts }

-- the bytes before a line feed are one line
pub cut_end : (rest : List ℕ) → IsUnended rest → CutsInto (rest ++ 10 ∷ []) (line_of rest ∷ []) []
cut_end rest last = record {
  raws = rest ∷ [];
  each = All-cons IsUnended rest [] last (All-nil IsUnended);
  last = All-nil (λ (byte : ℕ). byte ≢ 10);
  is = sym (append-nil (rest ++ 10 ∷ [])) ∙ ap (λ (l : List ℕ). l ++ []) (sym (append-nil (ended rest)));
  read = refl;
}

-- another byte is put behind the rest
pub cut_on : (rest : List ℕ) (byte : ℕ) → IsUnended rest → byte ≢ 10 → CutsInto (rest ++ byte ∷ []) [] (rest ++ byte ∷ [])
cut_on rest byte last other = record {
  raws = [];
  each = All-nil IsUnended;
  last = All-append (λ (b : ℕ). b ≢ 10) rest (byte ∷ []) last (with_first byte [] other (All-nil (λ (b : ℕ). b ≢ 10)));
  is = refl;
  read = refl;
}
