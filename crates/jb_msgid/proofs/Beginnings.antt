-- With which address a text begins.
use Rattle.std.proofs.Common.{◌≡◌, ◌≢◌, ℕ, zero, suc, ◌+◌, ◌-◌, ◌<◌, ◌≤◌, ◌==◌, Bool, true, not, List, [], ◌∷◌, ◌++◌, Some, length, take, drop, get_or, refl, ap, sym, ◌∙◌, subst, inl, inr, arith, length-append, append_assoc}
use Rattle.std.specs.Prelude.{slice_get, unwrap_or, position}
use Rattle.std.specs.List.{position_or_len}
use Rattle.std.proofs.lemmas.Bool.{cases_lt, true≢false, eqb-false}
use Rattle.std.proofs.lemmas.Bool.Decides.{eqb_tells, nat_tests}
use Rattle.std.proofs.lemmas.List.{append-nil, drop_at, drop_all, drop_more, get_or-take, take-append-drop, length-take-le}
use Rattle.std.proofs.lemmas.List.Sums.{prefix_len-le-length, fails_before_first, passes_at_first}
use Rattle.std.proofs.lemmas.Option.{none-some, same_Some}
use Rattle.jb_msgid.specs.Address.{BeginsWithout, IsPlain, IsUnclosed, MayBeginWith, quotes_doubled}
use Rattle.jb_msgid.specs.Unquoting.{IsClosed, IsQuoteEnd}
use Rattle.jb_msgid.proofs.Doubling.{same_doubled}

-- the test for a space
abbrev is_space : ℕ → Bool
is_space byte = byte == 32

-- the place of the first space, or the length
abbrev pub first_space : List ℕ → ℕ
first_space text = position_or_len is_space text

pub first_space-le : (text : List ℕ) → first_space text ≤ length text
first_space-le text = prefix_len-le-length (λ byte. not (is_space byte)) text

-- what a test for a byte says where it passes
passes : (byte other : ℕ) → (byte == other) ≡ true → byte ≡ other
passes byte other passed = elim (eqb_tells byte other) [ inl w ↦ w.1 | inr w ↦ absurd (true≢false (sym passed ∙ w.0)) ]

-- the first byte of a beginning
begins_without : (n byte : ℕ) (rest : List ℕ) → byte ≢ 34 → BeginsWithout 34 (take n (byte ∷ rest))
begins_without zero byte rest other = tt
begins_without (suc n) byte rest other = other

-- a first space lies behind a first byte that is none
space_behind : (byte : ℕ) (rest : List ℕ) → byte ≢ 32 → 0 < first_space (byte ∷ rest)
space_behind byte rest other =
    elim (cases_lt 0 (first_space (byte ∷ rest))) [
      | inl behind ↦ behind
      | inr at ↦
          let none : first_space (byte ∷ rest) ≡ 0 = omega arith in
          let passed = passes_at_first is_space (byte ∷ rest) 0 (omega arith) in
          absurd (other (passes byte 32 (sym (ap (λ (n : ℕ). is_space (get_or (byte ∷ rest) n 0)) none) ∙ passed)))
    ]

-- what stands from the first space on
from_space : (text : List ℕ) → MayBeginWith 32 (drop (first_space text) text)
from_space text =
    elim (cases_lt (first_space text) (length text)) [
      | inl here ↦ subst (MayBeginWith 32) (sym (drop_more text (first_space text) 0 here)) (passes (get_or text (first_space text) 0) 32 (passes_at_first is_space text 0 here))
      | inr past ↦ subst (MayBeginWith 32) (sym (drop_all (first_space text) text past)) tt
    ]

-- a text that begins with neither a space nor a quote begins with a plain address
plain_at : (byte : ℕ) (rest : List ℕ) → byte ≢ 32 → byte ≢ 34
    → IsPlain (byte ∷ rest) (take (first_space (byte ∷ rest)) (byte ∷ rest)) (drop (first_space (byte ∷ rest)) (byte ∷ rest))
plain_at byte rest no_space no_quote =
    let text = byte ∷ rest in
    let within : first_space text ≤ length text = prefix_len-le-length (λ b. not (is_space b)) text in
    let size : length (take (first_space text) text) ≡ first_space text = length-take-le (first_space text) text within in
    let behind : 0 < first_space text = space_behind byte rest no_space in
    record {
      spelled = sym (take-append-drop (first_space text) text);
      some = omega arith;
      unquoted = begins_without (first_space text) byte rest no_quote;
      spaceless = λ k d below.
          let before : k < first_space text = omega arith in
          subst (λ (b : ℕ). b ≢ 32) (sym (get_or-take (first_space text) text k d before)) (eqb-false (get_or text k d) 32 (fails_before_first is_space text k d before));
      ends = from_space text;
    }

pub plain_begins : (text : List ℕ) (first end : ℕ) → slice_get text 0 ≡ Some first → first ≢ 32 → first ≢ 34 → end ≡ first_space text → IsPlain text (take end text) (drop end text)
plain_begins [] first end begins no_space no_quote is = absurd (none-some first begins)
plain_begins (byte ∷ rest) first end begins no_space no_quote is =
    let same : byte ≡ first = same_Some byte first begins in
    subst (λ (n : ℕ). IsPlain (byte ∷ rest) (take n (byte ∷ rest)) (drop n (byte ∷ rest))) (sym is)
    (plain_at byte rest (λ space. no_space (sym same ∙ space)) (λ quote. no_quote (sym same ∙ quote)))

-- the place that a search answers, or the length
pub place_or_len : (text : List ℕ) → unwrap_or (position is_space text) (length text) ≡ first_space text
place_or_len text =
    let within : first_space text ≤ length text = prefix_len-le-length (λ b. not (is_space b)) text in
    grind (arith, nat_tests)

-- the end of bytes between quotes
pub closed_at : (text bytes rest : List ℕ) → text ≡ quotes_doubled bytes ++ rest → IsQuoteEnd rest → 0 < length rest → IsClosed text (record { bytes = bytes; end = length text - length rest + 1 })
closed_at text bytes [] spelled end some = absurd (omega arith)
closed_at text bytes (quote ∷ behind) spelled end some =
    let front = quotes_doubled bytes ++ quote ∷ [] in
    let whole : text ≡ front ++ behind = spelled ∙ sym (append_assoc (quotes_doubled bytes) (quote ∷ []) behind) in
    let n = length text - length (quote ∷ behind) + 1 in
    let size : length front ≡ n = omega (arith, ap length whole, length-append front behind, length-append (quotes_doubled bytes) (quote ∷ [])) in
    let after : drop n text ≡ behind = ap (drop n) whole ∙ drop_at front behind n size in
    record {
      within = omega (arith, ap length whole, length-append front behind, length-append (quotes_doubled bytes) (quote ∷ []));
      spelled = spelled ∙ ap (λ (b : ℕ). quotes_doubled bytes ++ b ∷ behind) end.0 ∙ ap (λ (l : List ℕ). quotes_doubled bytes ++ 34 ∷ l) (sym after);
      closed = subst (BeginsWithout 34) (sym after) end.1;
    }

-- a quote that nothing closes
pub unclosed_text : (text inner bytes : List ℕ) → slice_get text 0 ≡ Some 34 → inner ≡ drop 1 text → inner ≡ quotes_doubled bytes → IsUnclosed text
unclosed_text text inner bytes begins is spelled = record {
  quoted = begins;
  unclosed = λ address behind quoted.
      let same = ap (drop 1) (sym quoted.spelled) ∙ sym is ∙ spelled ∙ sym (append-nil (quotes_doubled bytes)) in
      let none = (same_doubled address bytes (34 ∷ behind) [] (refl, quoted.closed) tt same).1 in
      omega (arith, ap length none);
}
