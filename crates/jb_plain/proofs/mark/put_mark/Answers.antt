use Rattle.std.proofs.Common.{◌≡◌, ◌+◌, ◌<◌, ◌++◌, ◌∷◌, true, suc, List, length, drop, take, get_or, ap, sym, ◌∙◌, arith}
use Rattle.std.proofs.lemmas.Bool.{cond-true}
use Rattle.std.proofs.lemmas.List.{drop_more, set_split}
use Rattle.jb_state.specs.Marks.{is_mark, with_mark}
use Rattle.jb_state.specs.declared.mark.Mark.{Mark}
use Rattle.jb_plain.proofs.mark.put_mark.Goals as goal

pub returns-then-is_pair : goal.returns-then-is_pair
returns-then-is_pair c =
    let items : List Mark = c.loop-place.marks.items in
    let mark = c.args.mark in
    let p = c.loop-place.place in
    let other : Mark = c.index.result.now in
    let same_items = c.loop-place.invariant.0 in
    let within : p < length items = omega (arith, c.len-place-end.ensures, c.args.marks.now.ok, ap length same_items) in
    let one : suc p ≡ p + 1 = omega arith in
    let pass : is_mark mark.user_crc mark.user_id (get_or items p other) ≡ true = ap (is_mark mark.user_crc mark.user_id) (sym c.index.ensures) ∙ sym c.is_pair.ensures ∙ c.if-is_pair.true in
    let step : with_mark mark (drop p items) ≡ mark ∷ drop (p + 1) items =
    ap (with_mark mark) (drop_more items p other within)
    ∙ cond-true (is_mark mark.user_crc mark.user_id (get_or items p other)) (mark ∷ drop (p + 1) items) (get_or items p other ∷ with_mark mark (drop (p + 1) items)) pass in
    set_split items p mark within
    ∙ ap (λ n. take p items ++ mark ∷ drop n items) one
    ∙ ap (λ (l : List Mark). take p items ++ l) (sym step)
    ∙ c.loop-place.invariant.1
    ∙ ap (with_mark mark) same_items
