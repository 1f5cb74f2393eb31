-- Encoded words, from the first.
use Rattle.std.proofs.Common.{◌≡◌, ℕ, zero, suc, ◌-◌, ◌<◌, ◌≤◌, ◌++◌, List, [], ◌∷◌, length, take, drop, refl, ap, sym, ◌∙◌, arith, append_assoc}
use Rattle.std.proofs.lemmas.Bool.{cond_both}
use Rattle.std.proofs.lemmas.List.{length-drop}
use Rattle.jb_news.specs.declared.charset.Charset.{Charset}
use Rattle.jb_news.specs.declared.charset.Charset.TheVariants.{Utf8, Ibm437}
use Rattle.jb_news.specs.Charsets.{begins_at, encoded, encoded_up_to, encoded_word, parting, piece_length}

-- the first word has some bytes
some_piece : (charset : Charset) (bytes : List ℕ) → 1 ≤ piece_length charset bytes
some_piece Ibm437 bytes = omega arith
some_piece Utf8 bytes =
    let P : ℕ → Type 0 = λ n. 1 ≤ n in
    cond_both (begins_at bytes 39) 39 _ P (λ _. omega arith)
    (λ _. cond_both (begins_at bytes 38) 38 _ P (λ _. omega arith)
    (λ _. cond_both (begins_at bytes 37) 37 _ P (λ _. omega arith)
    (λ _. cond_both (begins_at bytes 36) 36 39 P (λ _. omega arith) (λ _. omega arith))))

-- how many bytes are allowed does not matter where there are as many
enough : (most more : ℕ) (fold : List ℕ) (charset : Charset) (bytes : List ℕ) → length bytes ≤ most → length bytes ≤ more
    → encoded_up_to most fold charset bytes ≡ encoded_up_to more fold charset bytes
enough zero zero fold charset bytes one two = refl
enough zero (suc more) fold charset [] one two = refl
enough zero (suc more) fold charset (byte ∷ rest) one two = absurd (omega arith)
enough (suc most) zero fold charset [] one two = refl
enough (suc most) zero fold charset (byte ∷ rest) one two = absurd (omega arith)
enough (suc most) (suc more) fold charset [] one two = refl
enough (suc most) (suc more) fold charset (byte ∷ rest) one two =
    let whole = byte ∷ rest in
    let size = piece_length charset whole in
    let left : length (drop size whole) ≡ length whole - size = length-drop size whole in
    let some = some_piece charset whole in
    let few : length (drop size whole) ≤ most = omega (arith, left, some) in
    let fewer : length (drop size whole) ≤ more = omega (arith, left, some) in
    ap (λ (l : List ℕ). encoded_word charset (take size whole) ++ parting fold (drop size whole) ++ l) (enough most more fold charset (drop size whole) few fewer)

-- some bytes are the first word, a fold where others follow, and the others
pub encoded_some : (fold : List ℕ) (charset : Charset) (bytes : List ℕ) → 0 < length bytes
    → encoded fold charset bytes ≡ encoded_word charset (take (piece_length charset bytes) bytes)
    ++ parting fold (drop (piece_length charset bytes) bytes) ++ encoded fold charset (drop (piece_length charset bytes) bytes)
encoded_some fold charset [] some = absurd (omega arith)
encoded_some fold charset (byte ∷ rest) some =
    let whole = byte ∷ rest in
    let size = piece_length charset whole in
    let left : length (drop size whole) ≡ length whole - size = length-drop size whole in
    let least = some_piece charset whole in
    let few : length (drop size whole) ≤ length rest = omega (arith, left, least) in
    let same : length (drop size whole) ≤ length (drop size whole) = omega arith in
    ap (λ (l : List ℕ). encoded_word charset (take size whole) ++ parting fold (drop size whole) ++ l)
    (enough (length rest) (length (drop size whole)) fold charset (drop size whole) few same)

-- a word and what parts it from others, put behind a text
pub one_word : (text one two word parted others whole start : List ℕ) → one ≡ text ++ word → two ≡ one ++ parted → whole ≡ word ++ parted ++ others
    → text ++ whole ≡ start → two ++ others ≡ start
one_word text one two word parted others whole start one_is two_is whole_is start_is =
    ap (λ (l : List ℕ). l ++ others) (two_is ∙ ap (λ (l : List ℕ). l ++ parted) one_is ∙ append_assoc text word parted)
    ∙ append_assoc text (word ++ parted) others ∙ ap (λ (l : List ℕ). text ++ l) (sym whole_is) ∙ start_is
