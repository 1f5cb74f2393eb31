-- The eight lines of a check, put one behind another.
use Rattle.std.proofs.Common.{◌≡◌, ℕ, Bool, List, [], ◌++◌, ap, ◌∙◌}
use Rattle.std.specs.Prelude.{codes}
use Rattle.jb_journal.specs.declared.error.Recovered.{Recovered}
use Rattle.jb_tool.specs.Check.{count_line, linked_line, recovered_line}

-- eight parts, each put behind those before
pub eight_parts : (a b c d e f g h t0 t1 t2 t3 t4 t5 t6 t7 t8 : List ℕ) → t0 ≡ [] → t1 ≡ t0 ++ a → t2 ≡ t1 ++ b → t3 ≡ t2 ++ c → t4 ≡ t3 ++ d → t5 ≡ t4 ++ e → t6 ≡ t5 ++ f → t7 ≡ t6 ++ g → t8 ≡ t7 ++ h
    → t8 ≡ a ++ b ++ c ++ d ++ e ++ f ++ g ++ h
eight_parts a b c d e f g h t0 t1 t2 t3 t4 t5 t6 t7 t8 none one two three four five six seven eight =
    eight ∙ ap (λ (t : List ℕ). t ++ h) (seven ∙ ap (λ (t : List ℕ). t ++ g) (six ∙ ap (λ (t : List ℕ). t ++ f) (five ∙ ap (λ (t : List ℕ). t ++ e) (four ∙ ap (λ (t : List ℕ). t ++ d)
    (three ∙ ap (λ (t : List ℕ). t ++ c) (two ∙ ap (λ (t : List ℕ). t ++ b) (one ∙ ap (λ (t : List ℕ). t ++ a) none)))))))

-- the lines of these figures
abbrev pub lines : ℕ → ℕ → ℕ → ℕ → ℕ → ℕ → Bool → Recovered → List ℕ
lines base next live killed empty msgids linked found =
    count_line (codes "base") base ++ count_line (codes "next") next ++ count_line (codes "live") live ++ count_line (codes "killed") killed
    ++ count_line (codes "empty") empty ++ count_line (codes "msgids") msgids ++ linked_line linked ++ recovered_line found
