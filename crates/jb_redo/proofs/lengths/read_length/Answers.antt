use Rattle.std.proofs.Common.{◌≡◌, ◌+◌, length, arith, rules}
use Rattle.jb_bytes.proofs.Numbers.{length-number_bytes}
use Rattle.jb_redo.specs.Record.{width_of, length_bytes}
use Rattle.jb_redo.specs.Walk.{journal_from}
use Rattle.jb_redo.proofs.FieldLemmas.{begins_same, on_none}
use Rattle.jb_redo.proofs.lengths.read_length.Goals as goal

pub returns-clause-none : goal.returns-clause-none
returns-clause-none g c =
    let version = c.args.sizes.now.version in
    let size : length c.read_bytes.new.into ≡ 4 + width_of version = search rules in
    on_none c.decode_length.result _ _ c.decode_length.ensures.none (λ none files is entry legal high begins.
    none entry legal high (begins_same (journal_from files c.args.at) c.read_bytes.new.into (length_bytes version entry) (omega (arith, size, length-number_bytes (width_of version) entry.len))
    (c.in_ok-read_bytes.ensures.found c.if-not-branch.false files is) begins))
