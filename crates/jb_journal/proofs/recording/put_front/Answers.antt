use Rattle.std.proofs.Common.{◌≡◌, ◌+◌, ◌*◌, ◌++◌, List, ℕ, length, ap, sym, arith, refl, ◌∙◌, length-append}
use Rattle.jb_disk.specs.declared.version.Version.TheVariants.{Two}
use Rattle.std.specs.List.{flat_map}
use Rattle.jb_bytes.specs.Number.{number_bytes}
use Rattle.jb_redo.specs.Record.{length_bytes}
use Rattle.jb_journal.specs.Spelling.{record_front}
use Rattle.jb_journal.proofs.RecordLemmas.{length-front}
use Rattle.jb_journal.proofs.PutsLemmas.{puts_room, puts_then, puts_failed}
use Rattle.jb_redo.proofs.LengthLemmas.{length-lengths}
use Rattle.jb_journal.proofs.recording.put_front.Goals as goal

pub put_lengths-requires-clause-room : goal.put_lengths-requires-clause-room
put_lengths-requires-clause-room g c =
    let code : length c.start_code.result ≡ 16 = ap length c.start_code.ensures in
    puts_room 16 c.start_code.result _ _ _ _ _ _ c.in_ok-put.ensures (λ files is. omega (arith, c.requires.room files is, code)) (λ files is. omega (arith, c.requires.room files is))

pub returns-in_err-put_lengths : goal.returns-in_err-put_lengths
returns-in_err-put_lengths g c =
    let code : length c.start_code.result ≡ 16 = ap length c.start_code.ensures in
    let flat = flat_map (length_bytes Two) c.args.lengths.now in
    let both : length (c.start_code.result ++ flat) ≡ 16 + 12 * length c.args.lengths.now = length-append c.start_code.result flat ∙ omega (arith, code, length-lengths c.args.lengths.now) in
    puts_failed _ _ _ _ _ _ _ _ _ refl c.from_residual-in_err-put_lengths.ensures.0
    (puts_then 16 32 c.start_code.result flat (c.start_code.result ++ flat) _ _ _ _ _ _ _ _ (λ files is. omega (arith, c.requires.room files is, both)) (ap (λ (n : ℕ). 16 + n) (sym code)) refl c.in_ok-put.ensures c.in_err-put_lengths.ensures)

pub put-requires-2-clause-room : goal.put-requires-2-clause-room
put-requires-2-clause-room g c =
    let code : length c.start_code.result ≡ 16 = ap length c.start_code.ensures in
    let number : length c.number_code.result ≡ 4 = ap length c.number_code.ensures in
    let size = length-lengths c.args.lengths.now in
    puts_room 32 _ _ _ _ _ _ _ c.in_ok-put_lengths.ensures
    (puts_room 16 c.start_code.result _ _ _ _ _ _ c.in_ok-put.ensures (λ files is. omega (arith, c.requires.room files is, code)) (λ files is. omega (arith, c.requires.room files is, size)))
    (puts_room 16 c.start_code.result _ _ _ _ _ _ c.in_ok-put.ensures (λ files is. omega (arith, c.requires.room files is, code)) (λ files is. omega (arith, c.requires.room files is, number)))

pub returns : goal.returns
returns g c =
    let code : length c.start_code.result ≡ 16 = ap length c.start_code.ensures in
    let number : length c.number_code.result ≡ 4 = ap length c.number_code.ensures in
    let flat = flat_map (length_bytes Two) c.args.lengths.now in
    let both : length (c.start_code.result ++ flat) ≡ 16 + 12 * length c.args.lengths.now = length-append c.start_code.result flat ∙ omega (arith, code, length-lengths c.args.lengths.now) in
    puts_then 16 (32 + 12 * length c.args.lengths.now) (c.start_code.result ++ flat) c.number_code.result (record_front c.args.change c.args.lengths.now c.args.pieces) _ _ _ _ _ _ _ _
    (λ files is. omega (arith, c.requires.room files is, length-front c.args.change c.args.lengths.now c.args.pieces))
    (omega (arith, both))
    (ap (λ (l : List ℕ). l ++ flat ++ number_bytes 4 c.args.pieces) (sym c.start_code.ensures) ∙ ap (λ (l : List ℕ). c.start_code.result ++ flat ++ l) (sym c.number_code.ensures))
    (puts_then 16 32 c.start_code.result flat (c.start_code.result ++ flat) _ _ _ _ _ _ _ _ (λ files is. omega (arith, c.requires.room files is, both)) (ap (λ (n : ℕ). 16 + n) (sym code)) refl c.in_ok-put.ensures c.in_ok-put_lengths.ensures)
    c.put-2.ensures
