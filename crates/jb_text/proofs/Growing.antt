-- A text that grows at its end.
use Rattle.std.proofs.Common.{◌≡◌, ℕ, ◌+◌, ◌++◌, List, replicate, ap, ◌∙◌, append_assoc}
use Rattle.std.proofs.lemmas.List.{replicate-append-replicate}

-- a text that is known, and grows
pub longer : (before now first second : List ℕ) → now ≡ before ++ second → before ≡ first → now ≡ first ++ second
longer before now first second now_is before_is = now_is ∙ ap (λ (l : List ℕ). l ++ second) before_is

-- three parts put behind a text one after another
pub three_parts : (text one two three first second third : List ℕ) → one ≡ text ++ first → two ≡ one ++ second → three ≡ two ++ third
    → three ≡ text ++ (first ++ second ++ third)
three_parts text one two three first second third one_is two_is three_is =
    longer two three (text ++ first ++ second) third three_is (longer one two (text ++ first) second two_is one_is)
    ∙ ap (λ (l : List ℕ). l ++ third) (append_assoc text first second) ∙ append_assoc text (first ++ second) third

-- a run that is known, and goes on
pub same_on : (text before now : List ℕ) (first second whole item : ℕ) → now ≡ before ++ replicate second item → before ≡ text ++ replicate first item
    → first + second ≡ whole → now ≡ text ++ replicate whole item
same_on text before now first second whole item now_is before_is sum =
    longer before now (text ++ replicate first item) (replicate second item) now_is before_is ∙ append_assoc text (replicate first item) (replicate second item)
    ∙ ap (λ (l : List ℕ). text ++ l) (replicate-append-replicate first second item ∙ ap (λ (n : ℕ). replicate n item) sum)
