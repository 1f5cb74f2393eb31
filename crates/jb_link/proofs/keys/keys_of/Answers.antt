use Rattle.std.proofs.Common.{◌≡◌, ◌+◌, ◌/◌, length, ap, sym, ◌∙◌, arith, subst}
use Rattle.std.specs.Prelude.{is_some}
use Rattle.jb_link.specs.Ids.{lent}
use Rattle.jb_link.proofs.KeyLemmas.{keys_more, keys_same}
use Rattle.jb_link.proofs.KeptLemmas.{not_some}
use Rattle.jb_link.specs.IdLists.{id_at}
use Rattle.jb_link.specs.Keys.{AreKeysBelow}
use Rattle.jb_link.proofs.keys.keys_of.Goals as goal
use Rattle.jb_link.proofs.keys.keys_of.Goals.{in-Some+in_ok-push, in_default}

pub loop-place-preserved : goal.loop-place-preserved
loop-place-preserved c =
    let next : c.args.loaded.now.base + c.loop-place.place + 1 ≡ c.args.loaded.now.base + (c.loop-place.place + 1) = omega arith in
    let base = c.requires.base in
    let number = ap (λ n. id_at c.args.kind c.args.loaded.now (n + c.loop-place.place)) base in
    subst (λ n. AreKeysBelow c.args.kind c.args.loaded.now c.args.keying.wide n c.match-id_at.keys.items) next
    (elim c.match-id_at.branch [
      | in-Some+in_ok-push w ↦
          rw (w.keys-is, w.in_ok-push.ensures.items)
          (keys_more _ _ _ _ _ _ _ c.loop-place.invariant (sym number ∙ sym c.id_at.ensures ∙ ap lent w.in-Some.is)
          (w.key.ensures.top ∙ ap (λ hash. hash / 2 / c.args.keying.wide) w.hash_of.ensures) (ap (λ at. c.args.loaded.now.base + at) w.key.ensures.place))
      | in_default w ↦
          rw w.keys-is
          (keys_same _ _ _ _ _ c.loop-place.invariant (ap is_some (sym number ∙ sym c.id_at.ensures ∙ ap lent (not_some _ w.in_default.not-Some))))
    ])

pub returns : goal.returns
returns c =
    let all : c.loop-place.place ≡ length c.args.loaded.now.slots = omega (arith, c.loop-place-test.false, c.loop-place.auto.place-end, ap length c.as_slice-slots.ensures) in
    subst (λ n. AreKeysBelow c.args.kind c.args.loaded.now c.args.keying.wide (c.args.loaded.now.base + n) c.loop-place.keys.items) all c.loop-place.invariant
