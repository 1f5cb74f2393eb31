use Rattle.std.proofs.Common.{◌∙◌, List, ℕ, ap, arith, length, subst}
use Rattle.jb_image.specs.Records.{IsHeaderReadAgain, message_bytes, with_fields}
use Rattle.jb_disk.specs.declared.file.FileId.TheVariants.{Jhr}
use Rattle.jb_state.specs.declared.message.Head.{Head}
use Rattle.jb_pack.specs.Laid.{Lays}
use Rattle.jb_pack.proofs.headers.put_message.Goals as goal

pub put-requires-clause-short : goal.put-requires-clause-short
put-requires-clause-short c = omega (arith, ap length c.as_slice.ensures.value, c.in_ok-write_message.ensures.size, c.requires.headers)

pub returns-clause-lays : goal.returns-clause-lays
returns-clause-lays c =
    let linked = ap (λ (head : Head). message_bytes c.args.place.number (with_fields head c.args.place.text_at c.args.message.now)) c.linked-head.ensures in
    subst (λ (l : List ℕ). Lays Jhr 1 l c.args.redo.now c.put.new.redo) (c.as_slice.ensures.value ∙ c.in_ok-write_message.ensures.exact ∙ linked) c.in_ok-put.ensures.lays

pub returns-clause-back : goal.returns-clause-back
returns-clause-back c =
    subst (λ (head : Head). IsHeaderReadAgain c.args.place.number (with_fields head c.args.place.text_at c.args.message.now)) c.linked-head.ensures
    c.in_ok-write_message.ensures.back
