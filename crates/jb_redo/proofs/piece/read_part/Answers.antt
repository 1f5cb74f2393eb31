use Rattle.std.proofs.Common.{◌≡◌, ◌+◌, ◌<◌, ◌≤◌, ◌∙◌, length, ap, sym, subst, arith, rules}
use Rattle.jb_disk.specs.Files.{file_number}
use Rattle.jb_redo.specs.declared.part.Front.TheVariants.{Bytes}
use Rattle.jb_redo.specs.Reading.{BeginsWith}
use Rattle.jb_redo.specs.Rules.{bound_of}
use Rattle.jb_redo.specs.Walk.{IsPartAt, IsLegalFront, journal_from, front_bytes, front_size}
use Rattle.jb_redo.proofs.FieldLemmas.{on_none, on_some}
use Rattle.jb_redo.proofs.PieceLemmas.{given_there, given_not_there, bad_front, front_length}
use Rattle.jb_redo.proofs.piece.read_part.Goals as goal

pub returns-in-Some-Bytes-clause-found : goal.returns-in-Some-Bytes-clause-found
returns-in-Some-Bytes-clause-found g c =
    let version = c.args.ends.now.version in
    let to = c.in-Some-Bytes.to in
    let to_at = c.in-Some-Bytes.to_at in
    let len = c.in-Some-Bytes.len in
    let front : (c.read_bytes.new.into ≡ front_bytes version (Bytes to to_at len)) × IsLegalFront version (Bytes to to_at len) = rw c.in-Some-Bytes.field-0-is at c.in-Some-Bytes.ensures.found in
    let legal : IsLegalFront version (Bytes to to_at len) = front.1 in
    let low : to_at < bound_of version = legal.0 in
    let short : len < bound_of version = legal.1 in
    let of_base : file_number to < 4 = legal.2 in
    on_some c.given_part.result _ _ (rw c.front_bytes-size.ensures at c.given_part.ensures.found) (λ part made files is.
    subst (IsPartAt files c.args.ends.now c.args.at) (sym made.0)
    (given_there files c.args.ends.now c.args.at c.get-end.result to to_at len (c.get-end.ensures ∙ (c.requires files is).journal) of_base low short
    (subst (BeginsWith (journal_from files c.args.at)) front.0 (c.in_ok-read_bytes.ensures.found c.if-not-branch.false files is)) made.1 made.2))

pub returns-in-Some-Bytes-clause-none : goal.returns-in-Some-Bytes-clause-none
returns-in-Some-Bytes-clause-none g c =
    let version = c.args.ends.now.version in
    let to = c.in-Some-Bytes.to in
    let to_at = c.in-Some-Bytes.to_at in
    let len = c.in-Some-Bytes.len in
    let front : (c.read_bytes.new.into ≡ front_bytes version (Bytes to to_at len)) × IsLegalFront version (Bytes to to_at len) = rw c.in-Some-Bytes.field-0-is at c.in-Some-Bytes.ensures.found in
    let legal : IsLegalFront version (Bytes to to_at len) = front.1 in
    let low : to_at < bound_of version = legal.0 in
    let short : len < bound_of version = legal.1 in
    let size : length c.read_bytes.new.into ≡ front_size version = ap length front.0 ∙ front_length version (Bytes to to_at len) in
    let within = c.in_ok-read_bytes.ensures.within c.if-not-branch.false in
    let room : c.args.at + front_size version ≤ c.get-end.result = omega (arith, c.read_bytes.ensures.size, size, within) in
    on_none c.given_part.result _ _ (rw c.front_bytes-size.ensures at c.given_part.ensures.none) (λ none files is.
    given_not_there files c.args.ends.now c.args.at c.get-end.result to to_at len (c.get-end.ensures ∙ (c.requires files is).journal) low short
    (subst (BeginsWith (journal_from files c.args.at)) front.0 (c.in_ok-read_bytes.ensures.found c.if-not-branch.false files is)) none room)

pub returns-in-None-clause-none : goal.returns-in-None-clause-none
returns-in-None-clause-none g c = λ files is.
    let size : length c.read_bytes.new.into ≡ front_size c.args.ends.now.version = search rules in
    bad_front files c.args.ends.now c.args.at c.read_bytes.new.into size (c.in_ok-read_bytes.ensures.found c.if-not-branch.false files is) (rw c.in-None.is at c.decode_front.ensures.none)
