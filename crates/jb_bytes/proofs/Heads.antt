-- Eight bytes of head and as many bytes of data as they say are one subfield.
use Rattle.std.proofs.Common.{◌≡◌, ℕ, ◌+◌, ◌*◌, ◌/◌, ◌%◌, ◌<◌, ◌≤◌, List, ◌∷◌, ◌++◌, length, take, drop, get_or, ap, sym, ◌∙◌, arith}
use Rattle.std.proofs.lemmas.List.{take-append-drop, length-take-le}
use Rattle.jb_bytes.specs.Number.{number_at}
use Rattle.jb_bytes.specs.Subfields.{one_subfield}
use Rattle.jb_bytes.specs.Whole.{BeginsWithField}

-- eight bytes, from the numbers that they make
eight_bytes : (a b c d e f g h id hi size : ℕ) (content behind : List ℕ)
    → a < 256 → b < 256 → c < 256 → d < 256 → e < 256 → f < 256 → g < 256 → h < 256
    → id ≡ a + 256 * b → hi ≡ c + 256 * d → size ≡ e + 256 * (f + 256 * (g + 256 * h)) → length content ≡ size
    → a ∷ b ∷ c ∷ d ∷ e ∷ f ∷ g ∷ h ∷ (content ++ behind) ≡ one_subfield (record { id = id; hi = hi; bytes = content }) ++ behind
eight_bytes a b c d e f g h id hi size content behind sa sb sc sd se sf sg sh ids his sizes full =
    let first : a ≡ id % 256 = omega arith in
    let second : b ≡ id / 256 % 256 = omega arith in
    let third : c ≡ hi % 256 = omega arith in
    let fourth : d ≡ hi / 256 % 256 = omega arith in
    let fifth : e ≡ length content % 256 = omega arith in
    let sixth : f ≡ length content / 256 % 256 = omega arith in
    let seventh : g ≡ length content / 256 / 256 % 256 = omega arith in
    let eighth : h ≡ length content / 256 / 256 / 256 % 256 = omega arith in
    cc

-- bytes that hold a head and the data of which it tells the length begin with a subfield
pub begins_with : (bytes : List ℕ) (id hi size : ℕ) → ((k : ℕ) → get_or bytes k 0 < 256)
    → id ≡ number_at 2 0 bytes → hi ≡ number_at 2 2 bytes → size ≡ number_at 4 4 bytes → 8 + size ≤ length bytes
    → BeginsWithField bytes (record { id = id; hi = hi; bytes = take size (drop 8 bytes) }) (drop size (drop 8 bytes))
begins_with (a ∷ b ∷ c ∷ d ∷ e ∷ f ∷ g ∷ h ∷ tail) id hi size each ids his sizes within =
    let sa : a < 256 = each 0 in
    let sb : b < 256 = each 1 in
    let sc : c < 256 = each 2 in
    let sd : d < 256 = each 3 in
    let se : e < 256 = each 4 in
    let sf : f < 256 = each 5 in
    let sg : g < 256 = each 6 in
    let sh : h < 256 = each 7 in
    let full : length (take size tail) ≡ size = length-take-le size tail (omega arith) in
    record {
      fits = record { id = omega arith; hi = omega arith; size = omega arith };
      spelled =
          ap (λ (l : List ℕ). a ∷ b ∷ c ∷ d ∷ e ∷ f ∷ g ∷ h ∷ l) (sym (take-append-drop size tail))
          ∙ eight_bytes a b c d e f g h id hi size (take size tail) (drop size tail) sa sb sc sd se sf sg sh (omega arith) (omega arith) (omega arith) full;
    }
begins_with bytes id hi size each ids his sizes within = absurd (omega arith)
