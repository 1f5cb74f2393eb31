use Rattle.std.proofs.Common.{◌≡◌, ℕ, ◌≤◌, ◌<◌, ◌++◌, List, length, take, flat_map, ap, sym, ◌∙◌, arith, append_assoc, append-nil}
use Rattle.jb_text.specs.Letter.{line, lines_of}
use Rattle.jb_text.proofs.LetterLemmas.{lines_of_long, lines_of_short}
use Rattle.jb_text.proofs.letters.append_lines.Goals as goal

pub loop-rest-preserved : goal.loop-rest-preserved
loop-rest-preserved c =
    let rest = c.loop-rest.rest.now in
    let long : 79 < length rest = omega arith in
    let F : List ℕ → List ℕ = λ l. flat_map line (lines_of l) in
    let front = c.split_at.result.0.now in
    let after = c.split_at.result.1.now in
    let key : line front ++ F after ≡ F rest =
    ap (λ (l : List ℕ). line l ++ F after) c.split_at.ensures.front ∙ ap (λ (l : List ℕ). line (take 79 rest) ++ F l) c.split_at.ensures.back
    ∙ ap (flat_map line) (sym (lines_of_long rest long)) in
    ap (λ (l : List ℕ). l ++ F after) c.in_ok-append_line.ensures ∙ append_assoc c.loop-rest.text (line front) (F after)
    ∙ ap (λ (l : List ℕ). c.loop-rest.text ++ l) key ∙ c.loop-rest.invariant

pub returns : goal.returns
returns c =
    let rest = c.loop-rest.rest.now in
    let short : length rest ≤ 79 = omega arith in
    let key : line rest ≡ flat_map line (lines_of rest) = sym (append-nil (line rest)) ∙ ap (flat_map line) (sym (lines_of_short rest short)) in
    c.in_ok-append_line-2.ensures ∙ ap (λ (l : List ℕ). c.loop-rest.text ++ l) key ∙ c.loop-rest.invariant
