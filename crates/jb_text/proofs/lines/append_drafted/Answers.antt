use Rattle.std.proofs.Common.{◌≡◌, ℕ, ◌<◌, ◌-◌, ◌^◌, ◌++◌, List, length, replicate, refl, ap, ◌∙◌, arith}
use Rattle.std.specs.Prelude.{codes, decimal}
use Rattle.jb_text.specs.Numbers.{right_in}
use Rattle.jb_text.specs.Shown.{shown}
use Rattle.jb_text.proofs.ShownLemmas.{shown_more, shown_right_in}
use Rattle.jb_text.proofs.lines.append_drafted.Goals as goal

pub returns : goal.returns
returns c =
    let number = c.args.number in
    let figure = c.as_bytes-figure.result.now in
    let from = c.args.from.now in
    let to = c.args.to.now in
    let subject = c.args.subject.now in
    let gap = codes "  " in
    let mark = codes " > " in
    let small : number < 2 ^ 64 = omega (arith, c.ranges.number.fits) in
    let digits : figure ≡ decimal number = c.as_bytes-figure.ensures.value ∙ c.format.ensures.text in
    let spaces = c.spaces-line.ensures ∙ ap (λ (n : ℕ). replicate n 32) c.saturating_sub.ensures in
    let numbered : c.put.new.self ≡ right_in 8 number =
    c.put.ensures ∙ ap (λ (l : List ℕ). l ++ figure) spaces ∙ ap (λ (l : List ℕ). replicate (8 - length l) 32 ++ l) digits in
    let one = right_in 8 number in
    let two = one ++ gap in
    let three = two ++ shown from in
    let four = three ++ mark in
    let five = four ++ shown to in
    let six = five ++ gap in
    let shows_one : shown c.put.new.self ≡ one = ap shown numbered ∙ shown_right_in 8 number small in
    let shows_two = shown_more c.put.new.self c.put-2.new.self gap one gap c.put-2.ensures shows_one refl in
    let shows_three = shown_more c.put-2.new.self c.put-3.new.self from two (shown from) c.put-3.ensures shows_two refl in
    let shows_four = shown_more c.put-3.new.self c.put-4.new.self mark three mark c.put-4.ensures shows_three refl in
    let shows_five = shown_more c.put-4.new.self c.put-5.new.self to four (shown to) c.put-5.ensures shows_four refl in
    let shows_six = shown_more c.put-5.new.self c.put-6.new.self gap five gap c.put-6.ensures shows_five refl in
    let drafted = c.show.ensures ∙ shown_more c.put-6.new.self c.put-7.new.self subject six (shown subject) c.put-7.ensures shows_six refl in
    c.in_ok-append.ensures.ok ∙ ap (λ (l : List ℕ). c.args.text.now ++ l) (c.as_slice.ensures ∙ drafted)
