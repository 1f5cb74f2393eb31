use Rattle.std.proofs.Common.{◌∙◌, List, ℕ, ap, arith, length, subst}
use Rattle.jb_limits.specs.declared.limits.TheConstants.{MOST_SLOTS}
use Rattle.jb_disk.specs.declared.file.FileId.TheVariants.{Jhr, Jdx}
use Rattle.jb_pack.specs.Bytes.{AreHeadersReadAgain, headers_bytes}
use Rattle.jb_pack.specs.Laid.{Lays}
use Rattle.jb_state.specs.Packed.{live_slots, packed}
use Rattle.jb_pack.proofs.PlanLemmas.{area_put, index_short}
use Rattle.jb_pack.proofs.files.put_area.Goals as goal

pub put-requires-clause-short : goal.put-requires-clause-short
put-requires-clause-short c =
    omega (
      arith,
      ap length (c.as_slice.ensures ∙ c.in_ok-put_slots.ensures.index),
      index_short MOST_SLOTS c.args.loaded.now c.requires.sound (omega arith),
    )

pub returns-clause-puts : goal.returns-clause-puts
returns-clause-puts c =
    let fixed = c.in_ok-put_fixed.ensures in
    let slots = c.in_ok-put_slots.ensures in
    area_put c.args.loaded.now c.args.redo.now c.put_fixed.new.redo c.put_slots.new.redo c.put.new.redo (live_slots c.args.slots.now) c.requires.begin fixed.lays
    (subst (λ n. Lays Jhr (live_slots c.args.slots.now) (headers_bytes n (packed c.args.loaded.now).slots) c.put_fixed.new.redo c.put_slots.new.redo) c.requires.base slots.lays)
    (subst (λ (l : List ℕ). Lays Jdx 1 l c.put_slots.new.redo c.put.new.redo) (c.as_slice.ensures ∙ slots.index) c.in_ok-put.ensures.lays)
    c.requires.begin_index (ap live_slots c.requires.slots) fixed.size
    (record {
      fixed = fixed.back;
      headers = subst (λ n. AreHeadersReadAgain n (packed c.args.loaded.now).slots) c.requires.base slots.headers_back;
      entries = slots.entries_back;
    })
