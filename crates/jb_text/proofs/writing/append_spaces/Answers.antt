use Rattle.std.proofs.Common.{◌≡◌, ℕ, ◌+◌, ◌*◌, ◌≤◌, ◌++◌, ◌∙◌, ap, List, arith}
use Rattle.std.proofs.lemmas.List.{take-replicate}
use Rattle.jb_text.proofs.Growing.{same_on}
use Rattle.jb_text.proofs.writing.append_spaces.Goals as goal

pub loop-piece-preserved : goal.loop-piece-preserved
loop-piece-preserved c =
    let piece = c.loop-piece._piece in
    let one_more : 32 * piece + 32 ≡ 32 * (piece + 1) = omega arith in (
      same_on c.args.text.now c.loop-piece.text c.append.new.self (32 * piece) 32 (32 * (piece + 1)) 32 c.in_ok-append.ensures.ok
          c.loop-piece.invariant.0 one_more,
      omega (arith, c.loop-piece.invariant.1, c.loop-piece-test.true),
    )

pub returns : goal.returns
returns c =
    let text = c.loop-piece.text in
    let left = c.loop-piece.left in
    let few : left ≤ 32 = omega (arith, c.loop-piece.invariant.1, c.loop-piece-test.false) in
    let all : 32 * c.loop-piece._piece + left ≡ c.args.count = omega (arith, c.loop-piece.invariant.1) in
    same_on c.args.text.now text c.append-2.new.self (32 * c.loop-piece._piece) left c.args.count 32
    (c.in_ok-append-2.ensures.ok ∙ ap (λ (l : List ℕ). text ++ l) (take-replicate left 32 32 few)) c.loop-piece.invariant.0 all
