-- When a text is a digest.
use Rattle.std.proofs.Common.{◌≡◌, ℕ, true, false, ◌==◌, List, [], Result, Ok, Err, length, refl, ap, ◌∙◌, arith, inl, inr}
use Rattle.std.specs.List.{list_all}
use Rattle.std.specs.Result.{result_unwrap_or}
use Rattle.std.proofs.lemmas.Bool.{and_parts, cases_Bool, false≢true}
use Rattle.std.proofs.lemmas.Bool.Decides.{nat_tests}
use Rattle.std.proofs.lemmas.List.Sums.{AllPass-from_list_all, list_all-from_AllPass}
use Rattle.hex.specs.Hex.{decode_sized, is_hex_digit}
use Rattle.hex.specs.declared.error.FromHexError.{FromHexError}
use Rattle.hex.proofs.HexLemmas.{IsOk-decode_sized, decode_sized-twice}
use Rattle.jb_conf.specs.Rows.{digest_of, is_digest}

-- a text that is decoded is a digest, of those bytes
pub decoded : (text bytes : List ℕ) → Ok bytes ≡ decode_sized text 32 → (is_digest text ≡ true) × (bytes ≡ digest_of text)
decoded text bytes e =
    let digits = (IsOk-decode_sized text 32).0 (rw (← e) refl) in
    let each : list_all is_hex_digit text ≡ true = list_all-from_AllPass is_hex_digit text digits.1 in
    let sized : length text ≡ 64 = digits.0 in
    let test : (length text == 64) ≡ true = grind (arith, nat_tests) in
    (rw (test, each) refl, ap (λ (r : Result (List ℕ) FromHexError). result_unwrap_or r []) (e ∙ decode_sized-twice text 32 sized))

-- any other is none
pub undecoded : (text : List ℕ) (error : FromHexError) → Err error ≡ decode_sized text 32 → is_digest text ≡ false
undecoded text error e = elim (cases_Bool (is_digest text)) [
  | inl is ↦
      let parts = and_parts (length text == 64) (list_all is_hex_digit text) is in
      let sized : length text ≡ 64 = grind (arith, nat_tests, parts.0) in
      let ok = (IsOk-decode_sized text 32).1 (sized, AllPass-from_list_all is_hex_digit text parts.1) in
      absurd (false≢true (rw (← e) at ok))
  | inr other ↦ other
]
