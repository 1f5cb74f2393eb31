use Rattle.std.proofs.Common.{◌≡◌, ℕ, false, [], ◌∷◌, ◌++◌, ap, sym, ◌∙◌, arith}
use Rattle.std.proofs.lemmas.Bool.Decides.{nat_tests}
use Rattle.jb_menu.specs.CommandLines.{is_space, without_last_spaces}
use Rattle.jb_menu.proofs.Spaces.{last_other, last_space}
use Rattle.jb_menu.proofs.command_line.without_last_spaces.Goals as goal

pub returns-then-last-ne32 : goal.returns-then-last-ne32
returns-then-last-ne32 c =
    let last = c.in-Some.last.now in
    let before = c.in-Some.before.now in
    let whole : c.loop-last.rest.now ≡ before ++ last ∷ [] = c.in-Some.ensures.cases.0 in
    let other : is_space last ≡ false = grind (arith, nat_tests) in
    whole ∙ sym (last_other before last other) ∙ ap without_last_spaces (sym whole) ∙ c.loop-last.invariant

pub loop-last-preserved : goal.loop-last-preserved
loop-last-preserved c =
    let before = c.in-Some.before.now in
    let whole : c.loop-last.rest.now ≡ before ++ 32 ∷ [] =
    c.in-Some.ensures.cases.0 ∙ ap (λ (n : ℕ). before ++ n ∷ []) c.if-last-ne32.false in
    sym (last_space before) ∙ ap without_last_spaces (sym whole) ∙ c.loop-last.invariant
