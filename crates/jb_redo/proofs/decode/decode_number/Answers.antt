use Rattle.std.proofs.Common.{refl, sym, ◌∙◌, ap, arith, length, subst, ℕ, ◌<◌, ◌^◌}
use Rattle.std.proofs.lemmas.List.{places}
use Rattle.jb_bytes.specs.Number.{number_bytes}
use Rattle.jb_bytes.proofs.Numbers.{AreBytes, number_bytes-back}
use Rattle.jb_redo.proofs.DecodeLemmas.{padded_number, little_endian-low}
use Rattle.jb_redo.proofs.decode.decode_number.Goals as goal

pub returns-clause-spelled : goal.returns-clause-spelled
returns-clause-spelled c =
    let is = padded_number c.args.bytes.now c.padded.result _ c.from_le_bytes.ensures c.requires c.padded.ensures in
    let each : AreBytes c.args.bytes.now = λ k. grind (arith, places) in
    sym (number_bytes-back (length c.args.bytes.now) c.args.bytes.now each refl) ∙ ap (number_bytes (length c.args.bytes.now)) (sym is)

pub returns-clause-fits : goal.returns-clause-fits
returns-clause-fits c =
    let is = padded_number c.args.bytes.now c.padded.result _ c.from_le_bytes.ensures c.requires c.padded.ensures in
    let each : AreBytes c.args.bytes.now = λ k. grind (arith, places) in
    subst (λ (n : ℕ). n < 256 ^ length c.args.bytes.now) (sym is) (little_endian-low c.args.bytes.now each)
