-- The names of groups and of articles are read back.
use Rattle.std.proofs.Common.{◌≡◌, ℕ, ◌+◌, ◌^◌, ◌<◌, ◌≤◌, ◌≢◌, ◌-◌, ◌%◌, ◌==◌, Bool, true, false, nat_le, List, [], ◌∷◌, ◌++◌, Option, Some, None, length, take, drop, get_or, refl, ap, ◌∙◌, arith, if◌then◌else◌, append_assoc, length-append}
use Rattle.std.specs.Bool.{Decides}
use Rattle.std.specs.Char.{is_ascii_digit}
use Rattle.std.specs.Int.{IsInRange}
use Rattle.std.specs.List.{list_all}
use Rattle.std.specs.Prelude.{bytes_eq, codes, decimal}
use Rattle.std.proofs.Math.ListN.{get_or-append}
use Rattle.std.proofs.Math.Seq.{drop-append-add, drop-append_seam, take-append_seam}
use Rattle.std.proofs.lemmas.Bool.Decides.{nat_tests}
use Rattle.std.proofs.lemmas.Fmt.{decimal_by_steps, decimal_is_IsNumeral, length-decimal-le}
use Rattle.std.proofs.lemmas.List.Folds.{list_all-append}
use Rattle.std.proofs.lemmas.List.Sums.{position_or_len_is}
use Rattle.std.proofs.lemmas.Slice.Eq.{bytes_eq-Decides}
use Rattle.jb_text.proofs.DigitLemmas.{digit_at}
use Rattle.jb_news.specs.declared.names.GroupName.TheVariants.{Number}
use Rattle.jb_news.specs.Names.{both_numbers, group_name, group_text, id_from, message_id, number_from, numbered_group}
use Rattle.jb_news.specs.Numbers.{plain_number}
use Rattle.jb_news.specs.Words.{behind_of, front_of, place_of}

-- a test answers what it decides
sure : (b : Bool) (P : Type 0) → Decides b P → P → b ≡ true
sure b P d p = d.1 p

-- the digits of a number are digits
digit : (d : ℕ) → d < 10 → is_ascii_digit (48 + d) ≡ true
digit d h = grind (arith, nat_tests)

one_digit : (d : ℕ) → d < 10 → list_all is_ascii_digit ((48 + d) ∷ []) ≡ true
one_digit d h = rw (digit d h) refl

digits_all : (n : ℕ) → n < 2 ^ 64 → list_all is_ascii_digit (decimal n) ≡ true
digits_all = decimal_by_steps (λ _ digits. list_all is_ascii_digit digits ≡ true)
    (λ n h. one_digit n h)
    (λ n digits h all. let last : n % 10 < 10 = omega arith in
    list_all-append is_ascii_digit digits ((48 + n % 10) ∷ []) ∙ rw (all, one_digit (n % 10) last) refl)

-- a number is the one that its decimal form is
pub plain_decimal : (n : ℕ) → n < 2 ^ 32 → plain_number (decimal n) ≡ Some n
plain_decimal n h =
    let wide : n < 2 ^ 64 = omega arith in
    let short : n < 10 ^ 10 = omega arith in
    let ten : 0 < 10 = omega arith in
    let numeral = decimal_is_IsNumeral n wide in
    let long = length-decimal-le 10 n ten short wide in
    let some : nat_le 1 (length (decimal n)) ≡ true = grind (arith, nat_tests, numeral.0.0) in
    let few : nat_le (length (decimal n)) 10 ≡ true = grind (arith, nat_tests, long) in
    let small : nat_le n (2 ^ 32 - 1) ≡ true = grind (arith, nat_tests) in
    let same : bytes_eq (decimal n) (decimal n) ≡ true = sure (bytes_eq (decimal n) (decimal n)) _ (bytes_eq-Decides (decimal n) (decimal n)) refl in
    rw (some, few, digits_all n wide, numeral.1, small, same) refl

-- two numbers that are the same, and two that differ
same_numbers : (m n : ℕ) → m ≡ n → (m == n) ≡ true
same_numbers m n h = grind (arith, nat_tests)

apart : (m n : ℕ) → m ≢ n → (m == n) ≡ false
apart m n h = grind (arith, nat_tests)

-- the byte behind some others
seam : (c : ℕ) (ds rest : List ℕ) → get_or (ds ++ c ∷ rest) (length ds) 0 ≡ c
seam c [] rest = refl
seam c (x ∷ xs) rest = seam c xs rest

-- a byte that is no digit stands first behind digits
place_behind : (c : ℕ) (ds rest : List ℕ) → ((x : ℕ) → IsInRange 48 57 x → x ≢ c) → list_all is_ascii_digit ds ≡ true → place_of c (ds ++ c ∷ rest) ≡ length ds
place_behind c ds rest other all =
    let within : length ds ≤ length (ds ++ c ∷ rest) = omega (arith, length-append ds (c ∷ rest)) in
    position_or_len_is (λ (x : ℕ). x == c) (ds ++ c ∷ rest) (length ds) 0 within
    (λ k h. ap (λ (x : ℕ). x == c) (get_or-append ds (c ∷ rest) 0 k h) ∙ apart (get_or ds k 0) c (other (get_or ds k 0) (digit_at ds k all h)))
    (λ _. ap (λ (x : ℕ). x == c) (seam c ds rest) ∙ same_numbers c c refl)

-- the number of an article is read
number_read : (n : ℕ) → n < 2 ^ 32 → number_from (decimal n ++ codes "@jam.invalid>") ≡ Some n
number_read n h =
    let wide : n < 2 ^ 64 = omega arith in
    let end = codes "@jam.invalid>" in
    let text = decimal n ++ end in
    let place = place_behind 64 (decimal n) (codes "jam.invalid>") (λ x r e. omega (arith, r.0, r.1, e)) (digits_all n wide) in
    ap (λ (k : ℕ). if bytes_eq (drop k text) end then plain_number (take k text) else None) place
    ∙ ap (λ (l : List ℕ). if bytes_eq l end then plain_number (take (length (decimal n)) text) else None) (drop-append_seam (decimal n) end)
    ∙ ap plain_number (take-append_seam (decimal n) end) ∙ plain_decimal n h

-- a message id is read
pub id_read : (area number : ℕ) → area < 2 ^ 32 → number < 2 ^ 32 → id_from (drop 1 (message_id area number)) ≡ Some (record { area = area; number = number })
id_read area number h k =
    let wide : area < 2 ^ 64 = omega arith in
    let behind = decimal number ++ codes "@jam.invalid>" in
    let text = decimal area ++ 46 ∷ behind in
    let shape : drop 1 (message_id area number) ≡ text =
    append_assoc (decimal area ++ 46 ∷ []) (decimal number) (codes "@jam.invalid>") ∙ append_assoc (decimal area) (46 ∷ []) behind in
    let place = place_behind 46 (decimal area) behind (λ x r e. omega (arith, r.0, r.1, e)) (digits_all area wide) in
    let front : front_of 46 text ≡ decimal area = ap (λ (n : ℕ). take n text) place ∙ take-append_seam (decimal area) (46 ∷ behind) in
    let after : behind_of 46 text ≡ behind = ap (λ (n : ℕ). drop (n + 1) text) place ∙ drop-append-add (decimal area) (46 ∷ behind) 1 in
    ap id_from shape ∙ ap (λ (l : List ℕ). both_numbers (plain_number l) (number_from (behind_of 46 text))) front
    ∙ ap (λ (l : List ℕ). both_numbers (plain_number (decimal area)) (number_from l)) after
    ∙ ap (λ (o : Option ℕ). both_numbers o (number_from behind)) (plain_decimal area h)
    ∙ ap (both_numbers (Some area)) (number_read number k)

-- the name of a group is read
pub group_read : (area : ℕ) → area < 2 ^ 32 → group_name (group_text area) ≡ Number area
group_read area h = ap numbered_group (plain_decimal area h)
