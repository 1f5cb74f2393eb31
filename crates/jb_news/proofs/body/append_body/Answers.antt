use Rattle.std.proofs.Common.{◌≡◌, ℕ, ◌+◌, ◌<◌, ◌++◌, List, length, take, drop, flat_map, ap, sym, ◌∙◌, arith, append_assoc}
use Rattle.std.proofs.lemmas.Bool.Decides.{nat_tests}
use Rattle.jb_text.proofs.LetterLemmas.{pieces_of_some}
use Rattle.jb_news.specs.Body.{body_line, body_text}
use Rattle.jb_news.specs.Words.{place_of}
use Rattle.jb_news.proofs.body.append_body.Goals as goal

-- the first piece and what stands behind it are the whole
first_and_rest : (text : List ℕ) (end : ℕ) → 0 < length text → end ≡ place_of 13 text → body_line (take end text) ++ body_text (drop (end + 1) text) ≡ body_text text
first_and_rest text end some is =
    ap (λ (n : ℕ). body_line (take n text) ++ body_text (drop (n + 1) text)) is ∙ ap (flat_map body_line) (sym (pieces_of_some text some))

pub loop-rest-preserved : goal.loop-rest-preserved
loop-rest-preserved c =
    let rest = c.loop-rest.rest.now in
    let end = c.place_of-end.result in
    let some : 0 < length rest = grind (arith, nat_tests) in
    ap (λ (l : List ℕ). l ++ body_text c.behind-rest.result.now) c.in_ok-append_body_line.ensures
    ∙ append_assoc c.loop-rest.text (body_line (take end rest)) (body_text c.behind-rest.result.now)
    ∙ ap (λ (l : List ℕ). c.loop-rest.text ++ (body_line (take end rest) ++ body_text l)) c.behind-rest.ensures
    ∙ ap (λ (l : List ℕ). c.loop-rest.text ++ l) (first_and_rest rest end some c.place_of-end.ensures.place)
    ∙ c.loop-rest.invariant
