use Rattle.std.proofs.Common.{◌≡◌, ℕ, ◌≤◌, inl, inr, min, List, length, take, ap, ◌∙◌, sym, arith}
use Rattle.std.proofs.lemmas.List.{take_all}
use Rattle.std.proofs.lemmas.Bool.{cases_lt}
use Rattle.jb_menu.proofs.lines.first_bytes.Goals as goal

-- so many bytes, or all
first_or_all : (n : ℕ) (text : List ℕ) → take (min (length text) n) text ≡ take n text
first_or_all n text =
    elim (cases_lt n (length text)) [
      | inl longer ↦ let e : min (length text) n ≡ n = omega arith in ap (λ (k : ℕ). take k text) e
      | inr shorter ↦
          let e : min (length text) n ≡ length text = omega arith in
          let whole : length text ≤ length text = omega arith in
          ap (λ (k : ℕ). take k text) e ∙ take_all (length text) text whole ∙ sym (take_all n text shorter)
    ]

pub returns-clause-first : goal.returns-clause-first
returns-clause-first c =
    ap (λ (n : ℕ). take n c.args.bytes.now) c.min.ensures ∙ first_or_all c.args.most c.args.bytes.now
