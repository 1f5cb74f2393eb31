use Rattle.std.proofs.Common.{◌≡◌, ◌≤◌, ◌∙◌, ap, get_or, sym, subst}
use Rattle.std.proofs.lemmas.Option.{get_or_from_slice_get, slice_get-get_or, slice_get_within}
use Rattle.jb_link.proofs.IdListLemmas.{bytes_had, first_with, has_bytes, not_lower}
use Rattle.jb_link.specs.IdLists.{id_at}
use Rattle.jb_link.proofs.id_lists.next_with.Goals as goal

pub returns-in_default : goal.returns-in_default
returns-in_default c = λ other high is.
    let first = first_with _ _ _ _ _ _ other c.requires c.place_of-at.ensures high is in
    c.in_default.not-Some (get_or c.args.numbers.now.items c.place_of-at.result 0) (c.get.ensures ∙ slice_get-get_or c.args.numbers.now.items c.place_of-at.result 0 first.within)

pub returns-then-has_id : goal.returns-then-has_id
returns-then-has_id c = (
  has_bytes _ _ (sym c.has_id.ensures ∙ c.if-has_id.true),
  not_lower c.args.kind c.args.loaded.now c.args.id.now _ c.args.from _ _ c.place_of-at.ensures (slice_get_within c.args.numbers.now.items c.place_of-at.result c.in-Some.number (sym c.in-Some.ensures))
      (get_or_from_slice_get c.args.numbers.now.items c.place_of-at.result c.in-Some.number c.in-Some.number (sym c.in-Some.ensures))
      (has_bytes _ _ (sym c.has_id.ensures ∙ c.if-has_id.true)),
  λ other high is.
      subst (λ n. n ≤ other) (get_or_from_slice_get c.args.numbers.now.items c.place_of-at.result c.in-Some.number 0 (sym c.in-Some.ensures))
      ((first_with _ _ _ _ _ _ other c.requires c.place_of-at.ensures high is).upto 0),
)

pub returns-else-has_id : goal.returns-else-has_id
returns-else-has_id c = λ other high is.
    let first = first_with _ _ _ _ _ _ other c.requires c.place_of-at.ensures high is in
    let here : get_or c.args.numbers.now.items c.place_of-at.result 0 ≡ c.in-Some.number = get_or_from_slice_get c.args.numbers.now.items c.place_of-at.result c.in-Some.number 0 (sym c.in-Some.ensures) in
    let has : id_at c.args.kind c.args.loaded.now c.in-Some.number ≡ _ = ap (id_at c.args.kind c.args.loaded.now) (sym here) ∙ first.has 0 in
    let had = bytes_had _ _ has in
    cc (c.has_id.ensures, c.if-has_id.false)
