use Rattle.std.proofs.Common.{◌≡◌, ℕ, ◌+◌, ◌<◌, ◌++◌, List, length, take, drop, flat_map, ap, sym, ◌∙◌, arith, append_assoc}
use Rattle.std.specs.List.{position_or_len}
use Rattle.std.proofs.lemmas.Bool.Decides.{nat_tests}
use Rattle.jb_text.specs.Letter.{body_text, ends_line, piece_text}
use Rattle.jb_text.proofs.LetterLemmas.{pieces_of_some}
use Rattle.jb_text.proofs.letters.append_body.Goals as goal

-- the first piece and what stands behind it are the whole
first_and_rest : (text : List ℕ) (end : ℕ) → 0 < length text → end ≡ position_or_len ends_line text → piece_text (take end text) ++ body_text (drop (end + 1) text) ≡ body_text text
first_and_rest text end some is =
    ap (λ (n : ℕ). piece_text (take n text) ++ body_text (drop (n + 1) text)) is ∙ ap (flat_map piece_text) (sym (pieces_of_some text some))

pub loop-rest-preserved : goal.loop-rest-preserved
loop-rest-preserved c =
    let rest = c.loop-rest.rest.now in
    let end = c.piece_end-end.result in
    let some : 0 < length rest = grind (arith, nat_tests) in
    ap (λ (l : List ℕ). l ++ body_text c.behind-rest.result.now) c.in_ok-append_piece.ensures
    ∙ append_assoc c.loop-rest.text (piece_text (take end rest)) (body_text c.behind-rest.result.now)
    ∙ ap (λ (l : List ℕ). c.loop-rest.text ++ (piece_text (take end rest) ++ body_text l)) c.behind-rest.ensures
    ∙ ap (λ (l : List ℕ). c.loop-rest.text ++ l) (first_and_rest rest end some c.piece_end-end.ensures.end)
    ∙ c.loop-rest.invariant
