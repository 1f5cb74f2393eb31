-- A write that is taken in parts.
use Rattle.std.proofs.Common.{◌≡◌, ℕ, ◌+◌, ◌-◌, ◌≤◌, List, [], ◌++◌, length, take, drop, refl, sym, ◌∙◌, ap, subst, arith, length-take, length-drop, Option, Some, None}
use Rattle.std.specs.Option.{ForSome, option_map}
use Rattle.std.proofs.lemmas.List.{same_lists, places}
use Rattle.jb_disk.specs.Files.{overwritten}
use Rattle.jb_disk.proofs.FileLemmas.{overwritten-append, overwritten-nil}

-- two parts one behind the other are one
take-parts : (bytes : List ℕ) (n m : ℕ) → take n bytes ++ take m (drop n bytes) ≡ take (n + m) bytes
take-parts bytes n m = same_lists _ _ (grind (arith, places)) (λ k d h. grind (arith, places))

-- all of a list
take-whole : (bytes : List ℕ) (n : ℕ) → length bytes ≤ n → take n bytes ≡ bytes
take-whole bytes n all = same_lists _ _ (grind (arith, places)) (λ k d h. grind (arith, places))

-- so many of the bytes are written
pub record Writing (initial now : Option (List ℕ)) (at : ℕ) (bytes : List ℕ) (done : ℕ) : Type 0 where
  pub within : done ≤ length bytes
  pub told : now ≡ option_map (overwritten at (take done bytes)) initial

-- none is
pub writing_start : (held : Option (List ℕ)) (at : ℕ) (bytes : List ℕ) → Writing held held at bytes 0
writing_start held at bytes = record { within = omega arith; told = none held }
  where
    none : (held : Option (List ℕ)) → held ≡ option_map (overwritten at []) held
    none None = refl
    none (Some old) = ap Some (sym (overwritten-nil at old))

-- one part more
pub writing_on : (initial now next : Option (List ℕ)) (at : ℕ) (bytes : List ℕ) (done count : ℕ) → Writing initial now at bytes done → ForSome initial (λ held. at + length bytes ≤ length held)
    → count ≤ length (drop done bytes) → next ≡ option_map (overwritten (at + done) (take count (drop done bytes))) now → Writing initial next at bytes (done + count)
writing_on initial now next at bytes done count writing room fits told =
    let within = writing.within in
    let left : done + count ≤ length bytes = omega (arith, fits, length-drop done bytes, within) in
    record {
      within = left;
      told = told ∙ ap (option_map (overwritten (at + done) (take count (drop done bytes)))) writing.told ∙ joined left initial room;
    }
  where
    joined : done + count ≤ length bytes → (held : Option (List ℕ)) → ForSome held (λ old. at + length bytes ≤ length old)
        → option_map (overwritten (at + done) (take count (drop done bytes))) (option_map (overwritten at (take done bytes)) held) ≡ option_map (overwritten at (take (done + count) bytes)) held
    joined left None room = refl
    joined left (Some old) room =
        let front = take done bytes in
        let back = take count (drop done bytes) in
        let size : length front ≡ done = length-take done bytes ∙ omega (arith, left) in
        let more : length back ≡ count = length-take count (drop done bytes) ∙ omega (arith, length-drop done bytes, left) in
        ap Some (ap (λ (n : ℕ). overwritten (at + n) back (overwritten at front old)) (sym size)
        ∙ overwritten-append at front back old (omega (arith, size, more, left, room old refl))
        ∙ ap (λ (l : List ℕ). overwritten at l old) (take-parts bytes done count))

-- the same, by the rest that is given
pub writing_by : (initial now next : Option (List ℕ)) (at : ℕ) (bytes : List ℕ) (done count : ℕ) → Writing initial now at bytes done → ForSome initial (λ held. at + length bytes ≤ length held)
    → count ≤ length (take (length bytes - done) (drop done bytes)) → next ≡ option_map (overwritten (at + done) (take count (take (length bytes - done) (drop done bytes)))) now → Writing initial next at bytes (done + count)
writing_by initial now next at bytes done count writing room fits told =
    let same = take-whole (drop done bytes) (length bytes - done) (omega (arith, length-drop done bytes)) in
    writing_on initial now next at bytes done count writing room (subst (λ (l : List ℕ). count ≤ length l) same fits) (told ∙ ap (λ (l : List ℕ). option_map (overwritten (at + done) (take count l)) now) same)

-- all are
pub writing_end : (initial now : Option (List ℕ)) (at : ℕ) (bytes : List ℕ) (done : ℕ) → Writing initial now at bytes done → length bytes ≤ done → now ≡ option_map (overwritten at bytes) initial
writing_end initial now at bytes done writing all = writing.told ∙ ap (λ (l : List ℕ). option_map (overwritten at l) initial) (take-whole bytes done all)
